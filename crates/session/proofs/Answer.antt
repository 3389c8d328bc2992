-- Answers of calls: a refused call gives back the session it took, and an accepted one the next session.
--   answer_refused, answer_accepted, answer_keeps, answer-number, answer-zero    by the number
--   step_refused, step_new, step_next    the answer of a call that changes all but the ledger, by the tests of the code
--   record_refused, record_next          that of a call that adds a record
--   cleared_new, cleared                 that of clear
use Rattle.std.specs.Prelude.{Result, Ok, Err}
use mathlib.Core.Path.{◌≡◌, refl, sym, ap, ap₂, subst, ◌∙◌}
use mathlib.Core.Bool.{Bool, true, false, not}
use Prim.Native.Nat.{ℕ, zero, suc, ◌<◌}
use borrow.Author.Tests.{not-true, not-false}
use Rattle.ledger.specs.Ledger.{most_records, new_ledger, added}
use Rattle.ledger.specs.declared.Ledger.{Ledger}
use Rattle.refusal.proofs.Refused.{refused}
use Rattle.refusal.specs.Number.{number, number_of}
use Rattle.refusal.specs.declared.number.Refusal.{Refusal}
use Rattle.work.specs.Step.{WorkStep, RecordStep, Answers, Records}
use Rattle.work.specs.declared.Recorded.{Recorded}
use Rattle.work.specs.Work.{new_work}
use Rattle.work.specs.declared.Work.{Work}
use Rattle.session.specs.Room.{Room}
use Rattle.session.specs.Session.{new_session, valid_session, counted, answer, step_with, record_with, clear}
use Rattle.session.specs.declared.Session.{Session}
use Rattle.session.proofs.CountsAs.{counted_itself, counted_new}

module _ (k : ℕ) (next taken : Session) where
  pub answer_refused : (k ≡ 0 → ⊥) → record { number = k; session = taken } ≡ answer k next taken
  unfolding answer
  answer_refused h = go k h
    where
      go : (k : ℕ) → (k ≡ 0 → ⊥) → record { number = k; session = taken } ≡ answer k next taken
      go zero h = absurd (h refl)
      go (suc k) h = refl

  pub answer_accepted : k ≡ 0 → (z : Session) → z ≡ next → record { number = 0; session = z } ≡ answer k next taken
  unfolding answer
  answer_accepted h z e = rw (h, e)

  pub answer_keeps : ((answer k next taken).number ≡ 0 → ⊥) → (answer k next taken).session ≡ taken
  unfolding answer
  answer_keeps h = go k h
    where
      go : (k : ℕ) → ((answer k next taken).number ≡ 0 → ⊥) → (answer k next taken).session ≡ taken
      go zero h = absurd (h refl)
      go (suc k) h = refl

  pub answer-number : (answer k next taken).number ≡ k
  unfolding answer
  answer-number = go k
    where
      go : (k : ℕ) → (answer k next taken).number ≡ k
      go zero = refl
      go (suc k) = refl

  pub answer-zero : k ≡ 0 → (answer k next taken).session ≡ next
  unfolding answer
  answer-zero e = rw e

-- all but the ledger changes
module _ (x : Session) (y : WorkStep) (r : Result Work Refusal) (a : Answers r y) where
  pub step_refused : (e : Refusal) → r ≡ Err e → record { number = number e; session = x } ≡ step_with x y
  unfolding step_with
  step_refused e f =
      let h : y.number ≡ number e = subst (λ q. Answers q y) f a in
      rw (← h) (answer_refused y.number _ x (λ z. refused e (sym h ∙ z)))

  module _ (w : Work) (g : r ≡ Ok w) (b : Bool) (e : b ≡ valid_session x) where
    h : (y.number ≡ 0) × (w ≡ y.work)
    h = subst (λ q. Answers q y) g a

    same_ledger : (l : Ledger) → l ≡ (counted x).ledger → record { number = 0; session = record { work = w; ledger = l } } ≡ step_with x y
    unfolding step_with
    same_ledger l f = answer_accepted y.number _ x h.0 _ (ap₂ (λ v m. record { work = v; ledger = m }) h.1 f)

    pub step_new : b ≡ false → (l : Ledger) → l ≡ new_ledger → record { number = 0; session = record { work = w; ledger = l } } ≡ step_with x y
    step_new k l f = same_ledger l (f ∙ sym (ap (λ w. w.ledger) (counted_new x (sym e ∙ k))))

    pub step_next : b ≡ true → record { number = 0; session = record { work = w; ledger = x.ledger } } ≡ step_with x y
    step_next k = same_ledger x.ledger (sym (ap (λ w. w.ledger) (counted_itself x (sym e ∙ k))))

-- a record is added
module _ (x : Session) (y : RecordStep) (r : Result Recorded Refusal) (a : Records r y) where
  pub record_refused : (e : Refusal) → r ≡ Err e → record { number = number e; session = x } ≡ record_with x y
  unfolding record_with
  record_refused e f =
      let h : y.number ≡ number e = subst (λ q. Records q y) f a in
      rw (← h) (answer_refused y.number _ x (λ z. refused e (sym h ∙ z)))

  module _ (n : Recorded) (g : r ≡ Ok n) (room : Room (number_of r) x) where
    zero_is : number_of r ≡ 0
    zero_is = ap number_of g

    pub room_free : x.ledger.count < most_records
    room_free = room.free zero_is

    pub record_next : (l : Ledger) → l ≡ added x.ledger n.entry → record { number = 0; session = record { work = n.work; ledger = l } } ≡ record_with x y
    unfolding record_with
    record_next l f =
        let h : (y.number ≡ 0) × (n.work ≡ y.work) × (n.entry ≡ y.entry) = subst (λ q. Records q y) g a in
        let own = ap (λ w. w.ledger) (counted_itself x (room.itself zero_is)) in
        answer_accepted y.number _ x h.0 _ (ap₂ (λ v m. record { work = v; ledger = m }) h.1 (f ∙ ap₂ added (sym own) h.2))

-- all but the ledger is new
module _ (x : Session) (b : Bool) (e : b ≡ valid_session x) where
  pub cleared_new : not b ≡ true → (y : Session) → y ≡ new_session → record { number = 0; session = y } ≡ clear x
  cleared_new h y f = rw (f, counted_new x (sym e ∙ not-true b h))

  pub cleared : not b ≡ false → (w : Work) → w ≡ new_work → record { number = 0; session = record { work = w; ledger = x.ledger } } ≡ clear x
  cleared h w f = rw (f, counted_itself x (sym e ∙ not-false b h))
