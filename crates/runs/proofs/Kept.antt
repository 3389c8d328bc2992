-- What every call keeps of a session that calls have made; such a session counts as itself.
--   Kept x       what is held is reached, the records are up to 512, and around the table it is as Around says
--   itself       then x counts as itself
--   kept_next    every call keeps it; every_kept: every list of calls makes it of a new session
use mathlib.Core.Path.{◌≡◌, refl, sym, ap, subst, ◌∙◌}
use mathlib.Core.Bool.{true, false}
use mathlib.Core.List.{List, [], ◌∷◌}
use Prim.Native.Nat.{ℕ, zero, suc, ◌+◌, ◌≤◌, ◌<◌}
use native.Mathlib.Omega.{arith}
use lib.ListN.{length, length-set}
use Rattle.held.specs.Held.{View, empty, loaded, paired, view, new_held}
use Rattle.held.specs.declared.Held.{Held}
use Rattle.pairing.specs.Theorem.{Reached, is_new}
use Rattle.pairing.proofs.Theorem.{calls_reach, reached_valid}
use Rattle.ledger.specs.Ledger.{most_records}
use Rattle.ledger.specs.declared.Record.{Record}
use Rattle.work.specs.Work.{new_work, is_open, addressed_as, addressed, with_addressed_as, with_addressed}
use Rattle.work.specs.declared.Table.{Table}
use Rattle.work.specs.declared.Work.{Work}
use Rattle.work.proofs.Valid.{OpenParts, valid_whole, looked_whole}
use Rattle.conversion.specs.Conversion as Conversion
use Rattle.conversion.proofs.Numbers.{accepted}
use Rattle.running.specs.Running as Running
use Rattle.running.specs.Running.{fed_as, feed_as, held_after, end_as}
use Rattle.running.proofs.Numbers.{begin_zero}
use Rattle.session.specs.Session.{new_session, counted, with_work, answer, step_with, record_with, recorded}
use Rattle.runs.specs.Theorem.{Call, call_load, call_propose, call_find, call_convert, call_begin, call_feed, call_end, call_report, call_clear, next, run, Around, no_table, over_pair}
use Rattle.session.specs.declared.Session.{Session}
use Rattle.session.proofs.CountsAs.{counted_itself}

pub record Kept (x : Session) : Type 0 where
  pub reached : Reached x.work.held
  pub few : x.ledger.count ≤ most_records
  pub long : length x.ledger.records ≡ most_records
  pub around : Around x.work.table x.work.held x.ledger.count x.work.waiting

-- around a table

pub never : true ≡ false → ⊥
never e = let z : ◌≡◌ {A = ℕ} 0 1 = cc in omega arith

around_open : {t : Table} {h : Held} {k : ℕ} {w : Held} → Around t h k w → is_open t ≡ true → OpenParts h k w
around_open no_table o = absurd (never (sym o))
around_open (over_pair pair room r) o = record { over_pair = pair; room = λ e. omega (arith, room, e); waiting_valid = reached_valid r }

around_closed : {t : Table} {h : Held} {k : ℕ} {w : Held} → Around t h k w → is_open t ≡ false → w ≡ new_held
around_closed no_table o = refl
around_closed (over_pair pair room r) o = absurd (never o)

around_more : {t : Table} {h : Held} {k : ℕ} {w : Held} → Around t h k w → is_open t ≡ false → (j : ℕ) → Around t h j w
around_more no_table o j = no_table
around_more (over_pair pair room r) o j = absurd (never o)

around_fed : {t : Table} {h : Held} {k : ℕ} {w : Held} → Around t h k w → (j : ℕ) → Around (fed_as t j) h k w
around_fed no_table j = no_table
around_fed (over_pair pair room r) j = over_pair pair room r

abbrev Stands : Work → ℕ → Type 0
Stands x k = Reached x.held × Around x.table x.held k x.waiting

-- the session that load, propose and find act on

addressed_reached : {t : Table} {h : Held} {k : ℕ} {w : Held} → Reached h → Around t h k w → Reached (addressed_as t h w)
addressed_reached r no_table = r
addressed_reached r (over_pair pair room s) = s

replaced_stands : {t : Table} {h : Held} {k : ℕ} {w : Held} → Reached h → Around t h k w → (z : Held) → Reached z
    → Stands (with_addressed_as t (record { held = h; table = t; waiting = w }) z) k
replaced_stands r no_table z s = (s, no_table)
replaced_stands r (over_pair pair room _) z s = (r, over_pair pair room s)

-- after the table

after_reached : (v : View) {w h : Held} → Reached w → Reached h → Reached (held_after v w h)
after_reached empty r s = s
after_reached (loaded p n t1 t2) r s = s
after_reached (paired p n t1 t2 s' r') r s = r

ended_stands : {t : Table} {h : Held} {k : ℕ} {w : Held} → Reached h → Around t h k w → (end_as t (record { held = h; table = t; waiting = w })).number ≡ 0
    → Stands (end_as t (record { held = h; table = t; waiting = w })).work (k + 1) × (k < most_records)
ended_stands r no_table z = absurd (omega arith)
ended_stands {w = w} r (over_pair pair room s) z = ((after_reached (view w) s r, no_table), room)

-- sessions

pub itself : {x : Session} → Kept x → x ≡ counted x
itself {x} h =
    let valid =
    valid_whole x.work x.ledger.count (record { few = h.few; held_valid = reached_valid h.reached; open_over = around_open h.around }) in
    sym (counted_itself x valid ∙ ap (λ w. record { work = w; ledger = x.ledger }) (looked_whole x.work (around_closed h.around)))

kept_counted : {x : Session} → Kept x → Kept (counted x)
kept_counted h = subst Kept (itself h) h

with_work_kept : {x : Session} → Kept x → (w : Work) → Stands w x.ledger.count → Kept (with_work x w)
with_work_kept h w s = record { reached = s.0; few = h.few; long = h.long; around = s.1 }

recorded_kept : {x : Session} → Kept x → x.ledger.count < most_records → (w : Work) → Stands w (x.ledger.count + 1) → (e : Record) → Kept (recorded x w e)
recorded_kept {x} h room w s e =
    record { reached = s.0; few = omega arith; long = length-set x.ledger.records x.ledger.count _ ∙ h.long; around = s.1 }

answer_kept : (k : ℕ) (z x : Session) → (k ≡ 0 → Kept z) → Kept x → Kept (answer k z x).session
unfolding answer
answer_kept zero z x f h = f refl
answer_kept (suc k) z x f h = h

holding_kept : {x : Session} → Kept x → (k : ℕ) (z : Held) → Reached z → Kept (answer k (with_work (counted x) (with_addressed (counted x).work z)) x).session
unfolding with_addressed
holding_kept {x} h k z r =
    let c = kept_counted h in
    answer_kept k _ x (λ _. with_work_kept c (with_addressed (counted x).work z) (replaced_stands c.reached c.around z r)) h

acted_reached : {x : Session} → Kept x → Reached (addressed (counted x).work)
unfolding addressed
acted_reached h = addressed_reached (kept_counted h).reached (kept_counted h).around

-- a ledger of up to 512 records that is not full has room
pub free : {x : Session} → Kept x → (x.ledger.count ≡ most_records → ⊥) → x.ledger.count < most_records
free h other = omega (arith, h.few, other)

pub kept_next : {x : Session} → Kept x → (c : Call) → Kept (next x c)
unfolding next step_with record_with Conversion.convert Running.begin Running.feed feed_as Running.end
kept_next {x} h (call_load p n t1 t2) = holding_kept h _ _ (calls_reach.load_reaches (acted_reached h) p n t1 t2)
kept_next {x} h (call_propose s r) = holding_kept h _ _ (calls_reach.propose_reaches (acted_reached h) s r)
kept_next {x} h call_find = holding_kept h _ _ (calls_reach.find_reaches (acted_reached h))
kept_next {x} h (call_convert d table out) =
    let c = kept_counted h in
    let k = (counted x).ledger.count in
    answer_kept _ _ x
    (λ z.
    let a = accepted (counted x).work k table out z in
    recorded_kept c (free c a.room) (counted x).work (c.reached, around_more c.around a.closed (k + 1)) _)
    h
kept_next {x} h (call_begin d) =
    let c = kept_counted h in
    let k = (counted x).ledger.count in
    answer_kept _ _ x
    (λ z.
    let (pair, _, room) = begin_zero (counted x).work k z in
    with_work_kept c _ (c.reached, over_pair pair (free c room) is_new))
    h
kept_next {x} h (call_feed table out) =
    let c = kept_counted h in
    answer_kept _ _ x (λ _. with_work_kept c _ (c.reached, around_fed c.around _)) h
kept_next {x} h call_end =
    let c = kept_counted h in
    answer_kept _ _ x
    (λ z.
    let (stands, room) = ended_stands c.reached c.around z in
    recorded_kept c room (Running.end (counted x).work).work stands _)
    h
kept_next h (call_report out) = h
kept_next h call_clear = with_work_kept (kept_counted h) new_work (is_new, no_table)

pub kept_run : {x : Session} → Kept x → (cs : List Call) → Kept (run x cs)
unfolding run
kept_run h [] = h
kept_run {x} h (c ∷ cs) = kept_run {x = next x c} (kept_next h c) cs

pub kept_new : Kept new_session
kept_new = record { reached = is_new; few = omega arith; long = refl; around = no_table }

pub every_kept : (cs : List Call) → Kept (run new_session cs)
every_kept cs = kept_run kept_new cs
