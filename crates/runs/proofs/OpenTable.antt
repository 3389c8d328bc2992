-- The proofs of what specs/OpenTable.antt states of an open table: call by call it stays open over what was held, until end or clear.
--   begun_session, fed_session, ended_session, still_closed   the session after begin, feed and end that are not refused, and after an end that is
--   held_table                                                load, propose and find leave the table as it is
use mathlib.Core.Path.{◌≡◌, refl, sym, ap, subst, ◌∙◌}
use mathlib.Core.Bool.{true, false, and-eq-true_iff}
use mathlib.Core.List.{List, [], ◌∷◌}
use Prim.Native.Nat.{ℕ, zero, suc, ◌+◌, ◌/◌, ◌<◌}
use native.Mathlib.Nat.{zero-add}
use native.Mathlib.Omega.{arith}
use lib.ListN.{length}
use Rattle.algebra.specs.Lists.{all}
use Rattle.held.specs.Held.{View, empty, loaded, paired, view}
use Rattle.held.specs.declared.Held.{Held}
use Rattle.ledger.specs.Ledger.{most_records, records_of}
use Rattle.ledger.specs.declared.Direction.{Direction}
use Rattle.ledger.specs.declared.Record.{Record}
use Rattle.table.specs.Table.{Images}
use Rattle.work.specs.Work.{is_paired, is_open, with_addressed_as, with_addressed}
use Rattle.work.specs.declared.Table.{Table}
use Rattle.work.specs.declared.Table.TheVariants.{Closed, Open}
use Rattle.work.specs.declared.Work.{Work}
use Rattle.conversion.specs.Conversion as Conversion
use Rattle.conversion.specs.Conversion.{where_zero}
use Rattle.conversion.proofs.Numbers.{accepted}
use Rattle.running.specs.Running as Running
use Rattle.running.specs.Running.{opened, fed_as, feed_as, held_after, ended, end_as}
use Rattle.running.proofs.Numbers.{begin_zero}
use Rattle.session.specs.Session.{new_session, counted, with_work, answer, step_with, record_with, recorded, begin, feed, feed_output, end}
use Rattle.runs.specs.OpenTable.{PartByPart, leaves_open, fed_by, fed_in, TableKeepsPair, EndCloses, ClearDrops}
use Rattle.runs.specs.Theorem.{Call, call_load, call_propose, call_find, call_convert, call_begin, call_feed, call_end, call_report, call_clear, next, run, Around, no_table, over_pair, map_in}
use Rattle.session.specs.declared.Session.{Session}
use Rattle.session.proofs.Answer.{answer-number, answer-zero}
use Rattle.runs.proofs.Images.{images_by, feed_paired, feed_given, feed_images}
use Rattle.runs.proofs.Kept.{Kept, itself, never, kept_next, kept_run, every_kept}
use Rattle.runs.proofs.Theorem.{refusals_change_nothing, given_pair, made_pair, record_behind}

-- what a feed writes

pub part_by_part : PartByPart
part_by_part x arrays e f table out z =
    let g = given_pair x.work.held arrays (feed_paired x table out z) in
    rw (feed_images x table out z e f) (images_by x.work.held g table out (feed_given x table out z) e.direction)

-- the session after a call

module _ {x : Session} (h : Kept x) where
  pub begun_session : (d : Direction) → (begin d x).number ≡ 0 → (begin d x).session ≡ with_work x (opened d x.work)
  unfolding step_with Running.begin
  begun_session d z = answer-zero _ _ x (sym (answer-number _ _ x) ∙ z) ∙ ap (λ y. with_work y (opened d y.work)) (sym (itself h))

  pub begun_closed : (d : Direction) → (begin d x).number ≡ 0 → is_open x.work.table ≡ false
  unfolding step_with Running.begin
  begun_closed d z =
      ap (λ y. is_open y.work.table) (itself h) ∙ (begin_zero (counted x).work (counted x).ledger.count (sym (answer-number _ _ x) ∙ z)).1

  pub fed_session : (table out : List ℕ) → (feed x table out).number ≡ 0
      → (feed x table out).session
      ≡ with_work x (record { held = x.work.held; table = fed_as x.work.table (length table / x.work.held.n); waiting = x.work.waiting })
  unfolding step_with Running.feed feed_as
  fed_session table out z =
      let zero = sym (answer-number _ _ x) ∙ z in
      answer-zero _ _ x zero
      ∙ ap (λ k. with_work (counted x) (record { held = (counted x).work.held; table = fed_as (counted x).work.table (where_zero k (length table / (counted x).work.held.n)); waiting = (counted x).work.waiting })) zero
      ∙ ap (λ y. with_work y (record { held = y.work.held; table = fed_as y.work.table (length table / y.work.held.n); waiting = y.work.waiting })) (sym (itself h))

  end_by : (t : Table) → x.work.table ≡ t
      → end x ≡ answer (end_as t x.work).number (recorded x (end_as t x.work).work (end_as t x.work).entry) x
  unfolding record_with Running.end
  end_by t f =
      ap (λ y. answer (Running.end y.work).number (recorded y (Running.end y.work).work (Running.end y.work).entry) x) (sym (itself h))
      ∙ ap (λ u. answer (end_as u x.work).number (recorded x (end_as u x.work).work (end_as u x.work).entry) x) f

  pub ended_session : (e : Record) → x.work.table ≡ Open e → end x ≡ record { number = 0; session = recorded x (ended x.work) e }
  unfolding answer
  ended_session e f = end_by (Open e) f

  pub still_closed : x.work.table ≡ Closed → (end x).session ≡ x
  unfolding answer
  still_closed f = ap (λ y. y.session) (end_by Closed f)

  -- load, propose and find leave the table as it is, and, where it is open, what is held
  module _ (k : ℕ) (z : Held) where
    same_table : (t : Table) (w : Work) → (with_addressed_as t w z).table ≡ w.table
    same_table Closed w = refl
    same_table (Open e) w = refl

    pub held_table : (answer k (with_work (counted x) (with_addressed (counted x).work z)) x).session.work.table ≡ x.work.table
    unfolding answer with_addressed
    held_table = go k
      where
        go : (k : ℕ) → (answer k (with_work (counted x) (with_addressed (counted x).work z)) x).session.work.table ≡ x.work.table
        go zero = same_table (counted x).work.table (counted x).work ∙ ap (λ y. y.work.table) (sym (itself h))
        go (suc k) = refl

    pub held_open : (e : Record) → x.work.table ≡ Open e
        → (answer k (with_work (counted x) (with_addressed (counted x).work z)) x).session.work.held ≡ x.work.held
    unfolding answer with_addressed
    held_open e f = go k
      where
        go : (k : ℕ) → (answer k (with_work (counted x) (with_addressed (counted x).work z)) x).session.work.held ≡ x.work.held
        go zero = ap (λ y. (with_addressed y.work z).held) (sym (itself h)) ∙ ap (λ t. (with_addressed_as t x.work z).held) f
        go (suc k) = refl

-- a table that is open stays so

refused : (k : ℕ) (z x : Session) → (k ≡ 0 → ⊥) → (answer k z x).session ≡ x
unfolding answer
refused zero z x h = absurd (h refl)
refused (suc k) z x h = refl

abbrev fed_table : Record → ℕ → Table
fed_table e j = Open (record { direction = e.direction; residues = e.residues + j })

fed_none : (e : Record) → Open e ≡ fed_table e 0
fed_none e =
    let same : e.residues ≡ e.residues + 0 = omega arith in
    ap (λ k. Open (record { direction = e.direction; residues = k })) same

fed_more : (e : Record) (i j : ℕ) → fed_table (record { direction = e.direction; residues = e.residues + i }) j ≡ fed_table e (i + j)
fed_more e i j =
    let same : e.residues + i + j ≡ e.residues + (i + j) = omega arith in
    ap (λ k. Open (record { direction = e.direction; residues = k })) same

module _ {x : Session} (h : Kept x) (e : Record) (f : x.work.table ≡ Open e) where
  abbrev Stays : Session → ℕ → Type 0
  Stays y j = (y.work.held ≡ x.work.held) × (y.work.table ≡ fed_table e j)

  unchanged : {y : Session} → y ≡ x → Stays y 0
  unchanged same = (ap (λ y. y.work.held) same, ap (λ y. y.work.table) same ∙ f ∙ fed_none e)

  counted_open : is_open (counted x).work.table ≡ true
  counted_open = ap (λ y. is_open y.work.table) (sym (itself h)) ∙ ap is_open f

  holding_stays : (k : ℕ) (z : Held) → Stays (answer k (with_work (counted x) (with_addressed (counted x).work z)) x).session 0
  holding_stays k z = (held_open h k z e f, held_table h k z ∙ f ∙ fed_none e)

  feed_stays : (table out : List ℕ) → Stays (feed x table out).session (where_zero (feed x table out).number (length table / x.work.held.n))
  feed_stays table out = go (feed x table out).number refl
    where
      go : (k : ℕ) → (feed x table out).number ≡ k → Stays (feed x table out).session (where_zero k (length table / x.work.held.n))
      go zero z =
          let after = fed_session h table out z in
          (ap (λ y. y.work.held) after, ap (λ y. y.work.table) after ∙ ap (λ t. fed_as t (length table / x.work.held.n)) f)
      go (suc k) z = unchanged ((refusals_change_nothing x).feed_keeps table out (λ zero. omega (arith, zero, z)))

  next_stays : (c : Call) → leaves_open c ≡ true → Stays (next x c) (fed_by x c)
  unfolding next leaves_open fed_by step_with record_with Conversion.convert Running.begin
  next_stays (call_load p n t1 t2) _ = holding_stays _ _
  next_stays (call_propose s r) _ = holding_stays _ _
  next_stays call_find _ = holding_stays _ _
  next_stays (call_convert d table out) _ =
      unchanged (refused _ _ x (λ z. never (sym counted_open ∙ (accepted (counted x).work (counted x).ledger.count table out z).closed)))
  next_stays (call_begin d) _ = unchanged (refused _ _ x (λ z. never (sym counted_open ∙ (begin_zero (counted x).work (counted x).ledger.count z).1)))
  next_stays (call_feed table out) _ = feed_stays table out
  next_stays call_end no_end = absurd (never (sym no_end))
  next_stays (call_report out) _ = unchanged refl
  next_stays call_clear no_clear = absurd (never (sym no_clear))

run_stays : {x : Session} → Kept x → (e : Record) → x.work.table ≡ Open e → (cs : List Call) → all leaves_open cs ≡ true
    → ((run x cs).work.held ≡ x.work.held) × ((run x cs).work.table ≡ fed_table e (fed_in x cs))
unfolding run fed_in all
run_stays h e f [] a = (refl, f ∙ fed_none e)
run_stays {x} h e f (c ∷ cs) a =
    let (here, later) = (and-eq-true_iff (leaves_open c) (all leaves_open cs)).0 a in
    let (held, table) = next_stays h e f c here in
    let (held_later, table_later) = run_stays {x = next x c} (kept_next h c) _ table cs later in
    (held_later ∙ held, table_later ∙ fed_more e (fed_by x c) (fed_in (next x c) cs))

pub table_keeps_pair : TableKeepsPair
table_keeps_pair bs d z cs a =
    let x = run new_session bs in
    let h = every_kept bs in
    let begun = begun_session h d z in
    let started : (begin d x).session.work.table ≡ Open (record { direction = d; residues = 0 }) = ap (λ y. y.work.table) begun in
    let kept : Kept (begin d x).session = unfold next in kept_next h (call_begin d) in
    let y = run (begin d x).session cs in
    let (held, table) = run_stays kept (record { direction = d; residues = 0 }) started cs a in
    let same : y.work.held ≡ x.work.held = held ∙ ap (λ s. s.work.held) begun in
    let open_as : y.work.table ≡ Open (record { direction = d; residues = fed_in (begin d x).session cs }) =
    table ∙ ap (λ k. Open (record { direction = d; residues = k })) (zero-add (fed_in (begin d x).session cs)) in
    record {
      held_stays = same;
      stays_open = open_as;
      feeds_by_it = λ part out fed.
          let now = y.work.held in
          let g = (made_pair (kept_run kept cs).reached (feed_paired y part out fed)).0 in
          subst (λ k. Images k.n (map_in d k) part (feed_output y part out)) same
          (rw (feed_images y part out fed _ open_as) (images_by now g part out (feed_given y part out fed) d));
    }

-- end and clear

after_paired : (v : View) (w h : Held) → is_paired v ≡ true → held_after v w h ≡ w
unfolding is_paired
after_paired empty w h e = absurd (never (sym e))
after_paired (loaded p n t1 t2) w h e = absurd (never (sym e))
after_paired (paired p n t1 t2 s r) w h e = refl

after_other : (v : View) (w h : Held) → is_paired v ≡ false → held_after v w h ≡ h
unfolding is_paired
after_other empty w h e = refl
after_other (loaded p n t1 t2) w h e = refl
after_other (paired p n t1 t2 s r) w h e = absurd (never e)

pub open_room : {x : Session} → Kept x → (e : Record) → x.work.table ≡ Open e → x.ledger.count < most_records
open_room {x} h e f = go h.around f
  where
    go : {t : Table} {a : Held} {k : ℕ} {w : Held} → Around t a k w → t ≡ Open e → k < most_records
    go no_table f = absurd (never (ap is_open (sym f)))
    go (over_pair pair room r) f = room

pub end_closes : EndCloses
end_closes cs e f =
    let x = run new_session cs in
    let h = every_kept cs in
    let after = ended_session h e f in
    record {
      accepted = ap (λ y. y.number) after;
      no_table = ap (λ y. y.session.work.table) after;
      nothing_waits = ap (λ y. y.session.work.waiting) after;
      paired_becomes_current = λ p. ap (λ y. y.session.work.held) after ∙ after_paired (view x.work.waiting) x.work.waiting x.work.held p;
      other_is_dropped = λ p. ap (λ y. y.session.work.held) after ∙ after_other (view x.work.waiting) x.work.waiting x.work.held p;
      one_record = ap (λ y. records_of y.session.ledger) after ∙ record_behind h (open_room h e f) (ended x.work) e;
    }

pub clear_drops : ClearDrops
clear_drops x = (refl, refl)
