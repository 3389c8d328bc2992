-- Answers as values: a refused call gives back the value that it took, and an accepted one the next value.
--   step_refused, step_new, step_next       a call that changes all but the ledger, of a value that counts as new and of one that counts as itself
--   record_refused, record_next             a call that adds a record
--   room_left, count_fits                   then the record has room
use Rattle.std.specs.Prelude.{Result, Ok, Err}
use mathlib.Core.Path.{◌≡◌, refl, sym, ap, ap₂, subst, ◌∙◌}
use mathlib.Core.Bool.{Bool, true, false}
use Prim.Native.Nat.{ℕ, zero, suc, ◌+◌, ◌<◌}
use native.Mathlib.Omega.{arith}
use lib.ListN.{length, set}
use mir.Syntax.{w32}
use mir.Val.{Fits}
use Rattle.ledger.specs.Ledger.{most_records, added}
use Rattle.refusal.proofs.Refused.{refused}
use Rattle.refusal.specs.Number.{number, number_of}
use Rattle.refusal.specs.declared.number.Refusal.{Refusal}
use Rattle.work.specs.Step.{WorkStep, RecordStep, Answers, Records}
use Rattle.work.specs.declared.Recorded.{Recorded}
use Rattle.work.specs.declared.Work.{Work}
use Rattle.session.specs.Session.{with_work, answer, step_with, record_with}
use Rattle.session.specs.declared.Session.{Session}
use Rattle.cvalue.specs.Inner.{valid_value, Recordable}
use Rattle.cvalue.specs.Values.{record_value, over, ledger_of, session_of, value_with, value_on, answer_of, step_of}
use Rattle.cvalue.specs.declared.RecordValue.{RecordValue}
use Rattle.cvalue.specs.declared.SessionValue.{SessionValue}
use Rattle.cvalue.proofs.Counting.{valid_made, counted_ledger, counted_new}
use Rattle.cvalue.proofs.Placed.{placed, own_placed, added-placed}

-- by the number
module _ (v : SessionValue) (k : ℕ) (next x : Session) where
  answer_refused : (k ≡ 0 → ⊥) → record { number = k; session = v } ≡ step_of v (answer k next x)
  unfolding step_of answer_of answer
  answer_refused h = go k h
    where
      go : (k : ℕ) → (k ≡ 0 → ⊥) → record { number = k; session = v } ≡ step_of v (answer k next x)
      go zero h = absurd (h refl)
      go (suc k) h = refl

  answer_accepted : k ≡ 0 → (w : SessionValue) → w ≡ value_on v next → record { number = 0; session = w } ≡ step_of v (answer k next x)
  unfolding step_of answer_of answer
  answer_accepted h w e = rw (h, e)

-- all but the ledger changes
module _ (v : SessionValue) (y : WorkStep) (r : Result Work Refusal) (a : Answers r y) where
  pub step_refused : (e : Refusal) → r ≡ Err e → (k : ℕ) → k ≡ number e → record { number = k; session = v } ≡ step_of v (step_with (session_of v) y)
  unfolding step_with
  step_refused e f k g =
      let h : y.number ≡ k = subst (λ q. Answers q y) f a ∙ sym g in
      rw (← h) (answer_refused v y.number _ (session_of v) (λ z. refused e (sym g ∙ sym h ∙ z)))

  module _ (x : Work) (g : r ≡ Ok x) (b : Bool) (e : b ≡ valid_value v) (w : SessionValue) where
    given : (y.number ≡ 0) × (x ≡ y.work)
    given = subst (λ q. Answers q y) g a

    pub step_new : b ≡ false → w ≡ value_with x 0 v.ledger → record { number = 0; session = w } ≡ step_of v (step_with (session_of v) y)
    unfolding step_with value_on over
    step_new n f =
        let new = counted_new v (sym e ∙ n) in
        answer_accepted v y.number _ (session_of v) given.0 w
        (f ∙ ap (λ u. value_with u 0 v.ledger) given.1 ∙ ap (λ x. value_on v (with_work x y.work)) (sym new))

    pub step_next : b ≡ true → length v.ledger ≡ most_records → w ≡ value_with x v.records v.ledger
        → record { number = 0; session = w } ≡ step_of v (step_with (session_of v) y)
    unfolding step_with value_on
    step_next n long f =
        let valid = sym e ∙ n in
        answer_accepted v y.number _ (session_of v) given.0 w
        (f
        ∙ ap₂ (λ u l. value_with u v.records l) given.1 (sym (own_placed v long (valid_made v valid)))
        ∙ ap (λ l. value_with y.work l.count (placed l v)) (sym (counted_ledger v valid)))

-- a record is added
module _ (v : SessionValue) (y : RecordStep) (r : Result Recorded Refusal) (a : Records r y) where
  pub record_refused : (e : Refusal) → r ≡ Err e → (k : ℕ) → k ≡ number e → record { number = k; session = v } ≡ step_of v (record_with (session_of v) y)
  unfolding record_with
  record_refused e f k g =
      let h : y.number ≡ k = subst (λ q. Records q y) f a ∙ sym g in
      rw (← h) (answer_refused v y.number _ (session_of v) (λ z. refused e (sym g ∙ sym h ∙ z)))

module _ (v : SessionValue) (r : Result Recorded Refusal) (n : Recorded) (g : r ≡ Ok n) (room : Recordable v (number_of r)) where
  zero_is : number_of r ≡ 0
  zero_is = ap number_of g

  pub room_left : v.records < 512
  room_left = room.free zero_is

  pub count_fits : Fits w32 (v.records + 1)
  count_fits = record { fits = omega (arith, room_left) }

  pub record_next : (y : RecordStep) → Records r y → length v.ledger ≡ most_records → (x : RecordValue) → x ≡ record_value n.entry → (w : SessionValue)
      → w ≡ value_with n.work (v.records + 1) (set v.ledger v.records x) → record { number = 0; session = w } ≡ step_of v (record_with (session_of v) y)
  unfolding record_with value_on
  record_next y a long x e w f =
      let h : (y.number ≡ 0) × (n.work ≡ y.work) × (n.entry ≡ y.entry) = subst (λ q. Records q y) g a in
      let valid = room.itself zero_is in
      let values : set v.ledger v.records x ≡ placed (added (ledger_of v) y.entry) v =
      ap (set v.ledger v.records) (e ∙ ap record_value h.2) ∙ sym (added-placed v long (valid_made v valid) room_left y.entry) in
      answer_accepted v y.number _ (session_of v) h.0 w
      (f
      ∙ ap₂ (λ u l. value_with u (v.records + 1) l) h.1 values
      ∙ ap (λ l. value_with y.work l.count (placed l v)) (ap (λ l. added l y.entry) (sym (counted_ledger v valid))))
