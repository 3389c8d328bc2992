-- Answers of calls: a refused call has the number of its refusal and gives back the value it took,
-- and an accepted one gives the next value.
--   refused_by, accepted   what the code answers, by the number
--   answer_number, answer_keeps    the number, and the value of a refused call
use Rattle.std.specs.Prelude.{Result, Ok}
use Rattle.std.specs.Result.{IsErrAnd}
use Rattle.std.proofs.lemmas.Result.{err_from_is_err_and}
use mathlib.Core.Path.{◌≡◌, refl}
use Prim.Native.Nat.{ℕ, zero, suc}
use Rattle.refusal.specs.Number.{number}
use Rattle.refusal.specs.declared.number.Refusal.{Refusal}
use Rattle.held.specs.declared.Held.{Held}
use Rattle.pairing.specs.Pairing.{answer}
use Rattle.pairing.specs.Step.{HeldStep, Answers}

pub refused_by : (r : Result Held Refusal) (e : Refusal) (y : HeldStep) → IsErrAnd r (λ d. d ≡ e) → y.number ≡ number e → Answers r y
refused_by r e y h f = let p = err_from_is_err_and r h in rw (p.1, p.2) f

pub answer_number : (k : ℕ) (x y : Held) → (answer k y x).number ≡ k
unfolding answer
answer_number zero x y = refl
answer_number (suc k) x y = refl

pub accepted : (k : ℕ) (x y z : Held) → k ≡ 0 → z ≡ y → Answers (Ok z) (answer k y x)
unfolding answer
accepted k x y z e f = rw e (refl, f)

pub answer_keeps : (k : ℕ) (x y : Held) → ((answer k y x).number ≡ 0 → ⊥) → (answer k y x).held ≡ x
unfolding answer
answer_keeps zero x y h = absurd (h refl)
answer_keeps (suc k) x y h = refl
