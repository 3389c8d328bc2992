-- What is proved of sessions, on the definitions that the contracts cite; OpenTable.antt beside this file has what is proved of tables in parts. CountsAsHeld, in
-- Theorem.antt of the crate pairing, states that a new, loaded or paired value that calls make counts as that.
--   Call, next x c, run x cs    one call, the session after it, and the session after a list of calls
--   Reached h (of pairing)      h is new, or loaded with models that 1, 2 and 4 do not refuse, or paired, and the checker accepts its pair
--   Around t h k w              where no table is open nothing waits; an open table t stands over a pair h and k records that leave room for its own, and w is
--                               reached
--   EveryRun                    every list of calls makes of a new session one that holds such a value, with up to 512 records, for which Around holds
--   RefusalChangesNothing x     a refused call gives back x, and a lent list holds what it held; a report gives back x, refused or not
--   RefusalsChangeNothing       that of every x
--   Arrays h (of held)          the arrays of h have as many words as their type says
--   map_in d h                  the forward or the backward map of the first n words of the arrays of h
--   GroupByGroup                a conversion that is not refused writes the images of the table under the map of its direction
--   with_ledger x l             x with another ledger
--   BackAgain                   in a session that calls have made, back after forward gives every table again, and forward after back; the second
--                               conversion may meet any ledger that has room for its record
--   ConversionAddsRecord        a conversion gives back the session it took with one record more, and nothing else changed
--   OthersKeepLedger            all calls but conversions and end keep the ledger
use Rattle.std.specs.Prelude.{◌≡◌, true, List, [], ◌∷◌, ◌++◌, ℕ, ◌/◌, ◌≤◌, ◌<◌, length}
use Rattle.pair.specs.Pair.{forward, backward}
use Rattle.held.specs.Held.{view, t1_of, t2_of, s_of, r_of, new_held, Arrays}
use Rattle.held.specs.declared.Held.{Held}
use Rattle.pairing.specs.Theorem.{Reached}
use Rattle.ledger.specs.Ledger.{most_records, records_of}
use Rattle.ledger.specs.declared.Direction.{Direction}
use Rattle.ledger.specs.declared.Direction.TheVariants.{Forward, Back}
use Rattle.ledger.specs.declared.Ledger.{Ledger}
use Rattle.ledger.specs.declared.Record.{Record}
use Rattle.table.specs.Table.{Images}
use Rattle.work.specs.Work.{is_paired}
use Rattle.work.specs.declared.Table.{Table}
use Rattle.work.specs.declared.Table.TheVariants.{Closed, Open}
use Rattle.session.specs.Session.{new_session, load, propose, find, convert, convert_output, begin, feed, feed_output, end, report, report_output, clear}
use Rattle.session.specs.declared.Session.{Session}

pub data Call : Type 0 where
  call_load : (p n : ℕ) (t1 t2 : List ℕ) → Call
  call_propose : (s r : List ℕ) → Call
  call_find : Call
  call_convert : (d : Direction) (table out : List ℕ) → Call
  call_begin : (d : Direction) → Call
  call_feed : (table out : List ℕ) → Call
  call_end : Call
  call_report : (out : List ℕ) → Call
  call_clear : Call

unfoldable pub next : Session → Call → Session
next x (call_load p n t1 t2) = (load x p n t1 t2).session
next x (call_propose s r) = (propose x s r).session
next x call_find = (find x).session
next x (call_convert d table out) = (convert d x table out).session
next x (call_begin d) = (begin d x).session
next x (call_feed table out) = (feed x table out).session
next x call_end = (end x).session
next x (call_report out) = (report x out).session
next x call_clear = (clear x).session

unfoldable pub run : Session → List Call → Session
run x [] = x
run x (c ∷ cs) = run (next x c) cs

pub data Around : Table → Held → ℕ → Held → Type 0 where
  no_table : {h : Held} {k : ℕ} → Around Closed h k new_held
  over_pair : {e : Record} {h : Held} {k : ℕ} {w : Held} → is_paired (view h) ≡ true → k < most_records → Reached w → Around (Open e) h k w

abbrev pub EveryRun : Type 0
EveryRun =
    (cs : List Call)
    → Reached (run new_session cs).work.held
    × ((run new_session cs).ledger.count ≤ most_records)
    × Around (run new_session cs).work.table (run new_session cs).work.held (run new_session cs).ledger.count (run new_session cs).work.waiting

pub record RefusalChangesNothing (x : Session) : Type 0 where
  pub load_keeps : (p n : ℕ) (t1 t2 : List ℕ) → ((load x p n t1 t2).number ≡ 0 → ⊥) → (load x p n t1 t2).session ≡ x
  pub propose_keeps : (s r : List ℕ) → ((propose x s r).number ≡ 0 → ⊥) → (propose x s r).session ≡ x
  pub find_keeps : ((find x).number ≡ 0 → ⊥) → (find x).session ≡ x
  pub convert_keeps : (d : Direction) (table out : List ℕ) → ((convert d x table out).number ≡ 0 → ⊥) → (convert d x table out).session ≡ x
  pub convert_writes_nothing : (d : Direction) (table out : List ℕ) → ((convert d x table out).number ≡ 0 → ⊥) → convert_output d x table out ≡ out
  pub begin_keeps : (d : Direction) → ((begin d x).number ≡ 0 → ⊥) → (begin d x).session ≡ x
  pub feed_keeps : (table out : List ℕ) → ((feed x table out).number ≡ 0 → ⊥) → (feed x table out).session ≡ x
  pub feed_writes_nothing : (table out : List ℕ) → ((feed x table out).number ≡ 0 → ⊥) → feed_output x table out ≡ out
  pub end_keeps : ((end x).number ≡ 0 → ⊥) → (end x).session ≡ x
  pub report_gives_back : (out : List ℕ) → (report x out).session ≡ x
  pub report_writes_nothing : (out : List ℕ) → ((report x out).number ≡ 0 → ⊥) → report_output x out ≡ out

abbrev pub RefusalsChangeNothing : Type 0
RefusalsChangeNothing = (x : Session) → RefusalChangesNothing x

abbrev pub map_in : Direction → Held → List ℕ → List ℕ
map_in Forward h = forward h.p (t2_of h) (s_of h)
map_in Back h = backward h.p (t1_of h) (r_of h)

abbrev pub GroupByGroup : Type 0
GroupByGroup =
    (x : Session) → Arrays x.work.held → (d : Direction) (table out : List ℕ) → (convert d x table out).number ≡ 0
    → Images x.work.held.n (map_in d x.work.held) table (convert_output d x table out)

abbrev pub opposite : Direction → Direction
opposite Forward = Back
opposite Back = Forward

abbrev pub with_ledger : Session → Ledger → Session
with_ledger x l = record { work = x.work; ledger = l }

abbrev pub BackAgain : Type 0
BackAgain =
    (cs : List Call) (d : Direction) (table out lent : List ℕ) (l : Ledger) → (convert d (run new_session cs) table out).number ≡ 0
    → length lent ≡ length out → l.count < most_records
    → convert_output (opposite d) (with_ledger (run new_session cs) l) (convert_output d (run new_session cs) table out) lent ≡ table

abbrev pub ConversionAddsRecord : Type 0
ConversionAddsRecord =
    (cs : List Call) (d : Direction) (table out : List ℕ) → (convert d (run new_session cs) table out).number ≡ 0
    → ((convert d (run new_session cs) table out).session.work ≡ (run new_session cs).work)
    × (records_of (convert d (run new_session cs) table out).session.ledger
    ≡ records_of (run new_session cs).ledger ++ (record { direction = d; residues = length table / (run new_session cs).work.held.n } ∷ []))

pub record KeepsLedger (x : Session) : Type 0 where
  pub load_keeps_ledger : (p n : ℕ) (t1 t2 : List ℕ) → (load x p n t1 t2).session.ledger ≡ x.ledger
  pub propose_keeps_ledger : (s r : List ℕ) → (propose x s r).session.ledger ≡ x.ledger
  pub find_keeps_ledger : (find x).session.ledger ≡ x.ledger
  pub begin_keeps_ledger : (d : Direction) → (begin d x).session.ledger ≡ x.ledger
  pub feed_keeps_ledger : (table out : List ℕ) → (feed x table out).session.ledger ≡ x.ledger
  pub report_keeps_ledger : (out : List ℕ) → (report x out).session.ledger ≡ x.ledger
  pub clear_keeps_ledger : (clear x).session.ledger ≡ x.ledger

abbrev pub OthersKeepLedger : Type 0
OthersKeepLedger = (cs : List Call) → KeepsLedger (run new_session cs)
