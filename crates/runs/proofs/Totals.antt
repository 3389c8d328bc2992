-- Each total is the residues of the conversions that succeeded and of the feeds of ended tables. Call by call: what is recorded, together with what the open table
-- has where it is ended, grows by what the call counts for.
use mathlib.Core.Path.{◌≡◌, refl, sym, ap, ap₂, ◌∙◌}
use mathlib.Core.Bool.{Bool, true, false}
use mathlib.Core.List.{List, [], ◌∷◌, ◌++◌}
use Prim.Native.Nat.{ℕ, zero, suc, ◌+◌, ◌/◌, ◌<◌}
use native.Mathlib.Omega.{arith}
use lib.ListN.{length}
use Rattle.held.specs.declared.Held.{Held}
use Rattle.ledger.specs.Ledger.{most_records, records_of, residues_as, residues_in, total, report, number, lines}
use Rattle.ledger.specs.declared.Direction.{Direction}
use Rattle.ledger.specs.declared.Direction.TheVariants.{Forward, Back}
use Rattle.ledger.specs.declared.Record.{Record}
use Rattle.ledger.proofs.Records.{total-append}
use Rattle.work.specs.Work.{is_open, with_addressed}
use Rattle.work.specs.declared.Table.{Table}
use Rattle.work.specs.declared.Table.TheVariants.{Closed, Open}
use Rattle.work.specs.declared.Work.{Work}
use Rattle.conversion.specs.Conversion.{where_zero}
use Rattle.running.specs.Running.{fed_as, ended}
use Rattle.runs.specs.OpenTable.{fed_by, ends_table, ended_in, where_true, in_table, counted_by, counted_in, TotalsCount}
use Rattle.session.specs.Session.{new_session, counted, with_work, answer, step_with, recorded, convert, begin, feed, end, clear, report_text}
use Rattle.runs.specs.Theorem.{Call, call_load, call_propose, call_find, call_convert, call_begin, call_feed, call_end, call_report, call_clear, next, run}
use Rattle.session.specs.declared.Session.{Session}
use Rattle.runs.proofs.Kept.{Kept, itself, never, kept_next, kept_new, every_kept}
use Rattle.runs.proofs.OpenTable.{begun_session, begun_closed, fed_session, ended_session, still_closed, held_table, open_room}
use Rattle.runs.proofs.Theorem.{refusals_change_nothing, record_behind, converted_session, converted_room, keeps_ledger}

-- residues in a direction

none_as : (d e : Direction) → residues_as d e 0 ≡ 0
none_as Forward Forward = refl
none_as Forward Back = refl
none_as Back Forward = refl
none_as Back Back = refl

sum_as : (d e : Direction) (i j : ℕ) → residues_as d e (i + j) ≡ residues_as d e i + residues_as d e j
sum_as Forward Forward i j = refl
sum_as Forward Back i j = omega arith
sum_as Back Forward i j = omega arith
sum_as Back Back i j = refl

module _ (d : Direction) where
  -- what the open table has in the direction d
  open_residues : Table → ℕ
  open_residues Closed = 0
  open_residues (Open e) = residues_in d e

  closed_none : (t : Table) → is_open t ≡ false → open_residues t ≡ 0
  unfolding open_residues
  closed_none Closed o = refl
  closed_none (Open e) o = absurd (never o)

  fed_sum : (t : Table) (j : ℕ) → open_residues (fed_as t j) ≡ open_residues t + in_table d t j
  unfolding open_residues
  fed_sum Closed j = omega arith
  fed_sum (Open e) j = sum_as d e.direction e.residues j

  where_sum : (b : Bool) (i j : ℕ) → where_true b (i + j) ≡ where_true b i + where_true b j
  where_sum true i j = refl
  where_sum false i j = omega arith

  where_none : (b : Bool) → where_true b 0 ≡ 0
  where_none true = refl
  where_none false = refl

  none_in : (t : Table) → in_table d t 0 ≡ 0
  none_in Closed = refl
  none_in (Open e) = none_as d e.direction

  -- what is recorded, and what the open table has where b says that it is ended
  recorded_or_open : Session → Bool → ℕ
  recorded_or_open x b = total d (records_of x.ledger) + where_true b (open_residues x.work.table)

  same_both : (y x : Session) → y.ledger ≡ x.ledger → y.work.table ≡ x.work.table → (b : Bool) → recorded_or_open y b ≡ recorded_or_open x b + 0
  unfolding recorded_or_open
  same_both y x l t b =
      omega (arith, ap (λ m. total d (records_of m)) l, ap (λ u. where_true b (open_residues u)) t)

  same_session : {y x : Session} → y ≡ x → (b : Bool) → recorded_or_open y b ≡ recorded_or_open x b + 0
  same_session {y} {x} e b = same_both y x (ap (λ y. y.ledger) e) (ap (λ y. y.work.table) e) b

  -- one record more
  record_total : {x : Session} → Kept x → x.ledger.count < most_records → (w : Work) (e : Record)
      → total d (records_of (recorded x w e).ledger) ≡ total d (records_of x.ledger) + residues_in d e
  unfolding total
  record_total {x} h room w e = omega (arith, ap (total d) (record_behind h room w e), total-append d (records_of x.ledger) (e ∷ []))

  module _ {x : Session} (h : Kept x) (b : Bool) where
    abbrev Grows : Session → Bool → ℕ → Type 0
    Grows y c j = recorded_or_open y b ≡ recorded_or_open x c + j

    holding_grows : (k : ℕ) (z : Held) → (answer k (with_work (counted x) (with_addressed (counted x).work z)) x).session.ledger ≡ x.ledger
        → Grows (answer k (with_work (counted x) (with_addressed (counted x).work z)) x).session b 0
    holding_grows k z l = same_both _ x l (held_table h k z) b

    convert_grows : (e : Direction) (table out : List ℕ)
        → Grows (convert e x table out).session b (where_zero (convert e x table out).number (residues_as d e (length table / x.work.held.n)))
    unfolding recorded_or_open
    convert_grows e table out = go (convert e x table out).number refl
      where
        go : (k : ℕ) → (convert e x table out).number ≡ k → Grows (convert e x table out).session b (where_zero k (residues_as d e (length table / x.work.held.n)))
        go zero z =
            let entry : Record = record { direction = e; residues = length table / x.work.held.n } in
            let after = ap (λ y. recorded_or_open y b) (converted_session h e table out z) in
            omega (arith, after, record_total h (converted_room h e table out z) x.work entry)
        go (suc k) z = same_session ((refusals_change_nothing x).convert_keeps e table out (λ zero. omega (arith, zero, z))) b

    begin_grows : (e : Direction) → Grows (begin e x).session b 0
    unfolding recorded_or_open open_residues
    begin_grows e = go (begin e x).number refl
      where
        go : (k : ℕ) → (begin e x).number ≡ k → Grows (begin e x).session b 0
        go zero z =
            let after = ap (λ y. recorded_or_open y b) (begun_session h e z) in
            let before = ap (where_true b) (closed_none x.work.table (begun_closed h e z)) in
            omega (arith, after, before, ap (where_true b) (none_as d e))
        go (suc k) z = same_session ((refusals_change_nothing x).begin_keeps e (λ zero. omega (arith, zero, z))) b

    feed_grows : (table out : List ℕ)
        → Grows (feed x table out).session b (where_true b (in_table d x.work.table (where_zero (feed x table out).number (length table / x.work.held.n))))
    unfolding recorded_or_open
    feed_grows table out = go (feed x table out).number refl
      where
        go : (k : ℕ) → (feed x table out).number ≡ k
            → Grows (feed x table out).session b (where_true b (in_table d x.work.table (where_zero k (length table / x.work.held.n))))
        go zero z =
            let j = length table / x.work.held.n in
            let after = ap (λ y. recorded_or_open y b) (fed_session h table out z) in
            let more = ap (where_true b) (fed_sum x.work.table j) in
            omega (arith, after, more, where_sum b (open_residues x.work.table) (in_table d x.work.table j))
        go (suc k) z =
            let same = same_session ((refusals_change_nothing x).feed_keeps table out (λ zero. omega (arith, zero, z))) b in
            omega (arith, same, ap (where_true b) (none_in x.work.table), where_none b)

    end_grows : Grows (end x).session true 0
    unfolding recorded_or_open open_residues
    end_grows = go x.work.table refl
      where
        go : (t : Table) → x.work.table ≡ t → Grows (end x).session true 0
        go Closed f =
            let none : open_residues x.work.table ≡ 0 = ap open_residues f in
            let after = ap (λ y. recorded_or_open y b) (still_closed h f) in
            omega (arith, after, ap (where_true b) none, where_none b, none)
        go (Open e) f =
            let before : open_residues x.work.table ≡ residues_in d e = ap open_residues f in
            let after = ap (λ y. recorded_or_open y.session b) (ended_session h e f) in
            omega (arith, after, before, where_none b, record_total h (open_room h e f) (ended x.work) e)

    clear_grows : Grows (clear x).session false 0
    unfolding recorded_or_open open_residues
    clear_grows = omega (arith, where_none b, ap (λ l. total d (records_of l)) (keeps_ledger h).clear_keeps_ledger)

    grows : (c : Call) → Grows (next x c) (ends_table c b) (counted_by d x c b)
    unfolding next ends_table counted_by fed_by step_with
    grows (call_load p n t1 t2) = holding_grows _ _ ((keeps_ledger h).load_keeps_ledger p n t1 t2)
    grows (call_propose s r) = holding_grows _ _ ((keeps_ledger h).propose_keeps_ledger s r)
    grows call_find = holding_grows _ _ (keeps_ledger h).find_keeps_ledger
    grows (call_convert e table out) = convert_grows e table out
    grows (call_begin e) = begin_grows e
    grows (call_feed table out) = feed_grows table out
    grows call_end = end_grows
    grows (call_report out) = same_session {x = x} refl b
    grows call_clear = clear_grows

  run_grows : {x : Session} → Kept x → (cs : List Call)
      → total d (records_of (run x cs).ledger) ≡ recorded_or_open x (ended_in cs) + counted_in d x cs
  unfolding run counted_in ended_in recorded_or_open
  run_grows h [] = omega arith
  run_grows {x} h (c ∷ cs) = omega (arith, run_grows {x = next x c} (kept_next h c) cs, grows h (ended_in cs) c)

  total_is : (cs : List Call) → total d (records_of (run new_session cs).ledger) ≡ counted_in d new_session cs
  unfolding total recorded_or_open open_residues
  total_is cs = omega (arith, run_grows kept_new cs, where_none (ended_in cs))

pub totals_count : TotalsCount
unfolding report_text report
totals_count cs = (
  λ d. total_is d cs,
  ap (λ x. report (records_of x.ledger)) (sym (itself (every_kept cs)))
      ∙ ap₂ (λ f b. lines (records_of (run new_session cs).ledger) ++ (number f ++ number b)) (total_is Forward cs) (total_is Back cs),
)
