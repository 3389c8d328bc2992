-- What is proved of tables in parts (document 02, S-8), most of it for every list of session calls from a new session.
--   PartByPart            a feed that is not refused writes the images of the part under the map of the table's direction, whatever the session is
--   leaves_open c         c is neither end nor clear
--   fed_by x c            the residues of the part that c converts, where it is a feed that succeeds
--   fed_in x cs           that of a list of calls, together
--   KeepsPair x d cs      begin in the direction d, and then calls that are neither end nor clear: what is held is what x held, the table is open in its direction
--                         with the residues that were fed, and a feed that is not refused writes the images under the map of what x held
--   TableKeepsPair        "The open table keeps the pair it began with, for every list of these calls"
--   EndsTable x e         end closes a table with the record e, "and adds one ledger record"; it "makes a paired waiting session the current one and drops one that is
--                         not paired"
--   EndCloses             that of every session with an open table
--   ClearDrops            clear "drops both and the open table", whatever it is handed; OthersKeepLedger says that it adds no record
--   ends_table c b        whether a table that is open before c is ended, where b says it of the calls after c
--   ended_in cs           whether a table that is open before these calls is ended by one of them, and not dropped
--   where_true b k        k where b is true, else 0
--   in_table d t k        k where the table t is open in the direction d, else 0
--   counted_by d x c b    the residues in the direction d that the call c counts for: those of a conversion that succeeds, and those of a feed that succeeds where b says
--                         that its table is ended
--   counted_in d x cs     that of a list of calls, together
--   TotalsCount           "its totals now count single conversions and the feeds of ended tables, not those of a dropped one", for every list of session calls from
--                         a new session, and the report ends in these totals
use Rattle.std.specs.Prelude.{◌≡◌, Bool, true, false, List, [], ◌∷◌, ◌++◌, ℕ, ◌+◌, ◌/◌, length}
use Rattle.algebra.specs.Lists.{all}
use Rattle.held.specs.Held.{view, new_held, Arrays}
use Rattle.ledger.specs.Ledger.{records_of, residues_as, total, number, lines}
use Rattle.ledger.specs.declared.Direction.{Direction}
use Rattle.ledger.specs.declared.Direction.TheVariants.{Forward, Back}
use Rattle.ledger.specs.declared.Record.{Record}
use Rattle.table.specs.Table.{Images}
use Rattle.work.specs.Work.{new_work, is_paired}
use Rattle.work.specs.declared.Table.{Table}
use Rattle.work.specs.declared.Table.TheVariants.{Closed, Open}
use Rattle.conversion.specs.Conversion.{where_zero}
use Rattle.session.specs.Session.{new_session, convert, begin, feed, feed_output, end, clear, report_text}
use Rattle.runs.specs.Theorem.{Call, call_load, call_propose, call_find, call_convert, call_begin, call_feed, call_end, call_report, call_clear, next, run, map_in}
use Rattle.session.specs.declared.Session.{Session}

abbrev pub PartByPart : Type 0
PartByPart =
    (x : Session) → Arrays x.work.held → (e : Record) → x.work.table ≡ Open e → (table out : List ℕ) → (feed x table out).number ≡ 0
    → Images x.work.held.n (map_in e.direction x.work.held) table (feed_output x table out)

unfoldable pub leaves_open : Call → Bool
leaves_open (call_load p n t1 t2) = true
leaves_open (call_propose s r) = true
leaves_open call_find = true
leaves_open (call_convert d table out) = true
leaves_open (call_begin d) = true
leaves_open (call_feed table out) = true
leaves_open call_end = false
leaves_open (call_report out) = true
leaves_open call_clear = false

unfoldable pub fed_by : Session → Call → ℕ
fed_by x (call_load p n t1 t2) = 0
fed_by x (call_propose s r) = 0
fed_by x call_find = 0
fed_by x (call_convert d table out) = 0
fed_by x (call_begin d) = 0
fed_by x (call_feed table out) = where_zero (feed x table out).number (length table / x.work.held.n)
fed_by x call_end = 0
fed_by x (call_report out) = 0
fed_by x call_clear = 0

unfoldable pub fed_in : Session → List Call → ℕ
fed_in x [] = 0
fed_in x (c ∷ cs) = fed_by x c + fed_in (next x c) cs

pub record KeepsPair (x : Session) (d : Direction) (cs : List Call) : Type 0 where
  pub held_stays : (run (begin d x).session cs).work.held ≡ x.work.held
  pub stays_open : (run (begin d x).session cs).work.table ≡ Open (record { direction = d; residues = fed_in (begin d x).session cs })
  pub feeds_by_it :
      (table out : List ℕ) → (feed (run (begin d x).session cs) table out).number ≡ 0
      → Images x.work.held.n (map_in d x.work.held) table (feed_output (run (begin d x).session cs) table out)

abbrev pub TableKeepsPair : Type 0
TableKeepsPair =
    (bs : List Call) (d : Direction) → (begin d (run new_session bs)).number ≡ 0 → (cs : List Call) → all leaves_open cs ≡ true → KeepsPair (run new_session bs) d cs

pub record EndsTable (x : Session) (e : Record) : Type 0 where
  pub accepted : (end x).number ≡ 0
  pub no_table : (end x).session.work.table ≡ Closed
  pub nothing_waits : (end x).session.work.waiting ≡ new_held
  pub paired_becomes_current : is_paired (view x.work.waiting) ≡ true → (end x).session.work.held ≡ x.work.waiting
  pub other_is_dropped : is_paired (view x.work.waiting) ≡ false → (end x).session.work.held ≡ x.work.held
  pub one_record : records_of (end x).session.ledger ≡ records_of x.ledger ++ (e ∷ [])

abbrev pub EndCloses : Type 0
EndCloses = (cs : List Call) (e : Record) → (run new_session cs).work.table ≡ Open e → EndsTable (run new_session cs) e

abbrev pub ClearDrops : Type 0
ClearDrops = (x : Session) → ((clear x).number ≡ 0) × ((clear x).session.work ≡ new_work)

unfoldable pub ends_table : Call → Bool → Bool
ends_table (call_load p n t1 t2) b = b
ends_table (call_propose s r) b = b
ends_table call_find b = b
ends_table (call_convert d table out) b = b
ends_table (call_begin d) b = b
ends_table (call_feed table out) b = b
ends_table call_end b = true
ends_table (call_report out) b = b
ends_table call_clear b = false

unfoldable pub ended_in : List Call → Bool
ended_in [] = false
ended_in (c ∷ cs) = ends_table c (ended_in cs)

abbrev pub where_true : Bool → ℕ → ℕ
where_true true k = k
where_true false k = 0

abbrev pub in_table : Direction → Table → ℕ → ℕ
in_table d Closed k = 0
in_table d (Open e) k = residues_as d e.direction k

unfoldable pub counted_by : Direction → Session → Call → Bool → ℕ
counted_by d x (call_load p n t1 t2) b = 0
counted_by d x (call_propose s r) b = 0
counted_by d x call_find b = 0
counted_by d x (call_convert e table out) b = where_zero (convert e x table out).number (residues_as d e (length table / x.work.held.n))
counted_by d x (call_begin e) b = 0
counted_by d x (call_feed table out) b = where_true b (in_table d x.work.table (fed_by x (call_feed table out)))
counted_by d x call_end b = 0
counted_by d x (call_report out) b = 0
counted_by d x call_clear b = 0

unfoldable pub counted_in : Direction → Session → List Call → ℕ
counted_in d x [] = 0
counted_in d x (c ∷ cs) = counted_by d x c (ended_in cs) + counted_in d (next x c) cs

abbrev pub TotalsCount : Type 0
TotalsCount =
    (cs : List Call)
    → ((d : Direction) → total d (records_of (run new_session cs).ledger) ≡ counted_in d new_session cs)
    × (report_text (run new_session cs)
    ≡ lines (records_of (run new_session cs).ledger) ++ (number (counted_in Forward new_session cs) ++ number (counted_in Back new_session cs)))
