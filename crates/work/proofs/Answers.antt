-- What a `?` returns, the refusal of the call before it; and the number of an answer.
use Rattle.std.specs.Prelude.{Result, Ok, Err}
use Rattle.std.specs.Result.{IsErrAnd}
use Rattle.std.proofs.lemmas.Result.{err_from_is_err_and}
use mathlib.Core.Path.{◌≡◌, sym}
use Prim.Native.Nat.{ℕ}
use Rattle.refusal.specs.Number.{number, number_of}
use Rattle.refusal.specs.declared.number.Refusal.{Refusal}
use Rattle.work.specs.Step.{WorkStep, RecordStep, Answers, Records}
use Rattle.work.specs.declared.Recorded.{Recorded}
use Rattle.work.specs.declared.Work.{Work}

pub number_refused : {T : Type 0} (r : Result T Refusal) (e : Refusal) (k : ℕ) → IsErrAnd r (λ d. d ≡ e) → number e ≡ k → number_of r ≡ k
number_refused r e k h f = let p = err_from_is_err_and r h in rw (p.1, p.2) f

pub work_refused : (r : Result Work Refusal) (e : Refusal) (y : WorkStep) → IsErrAnd r (λ d. d ≡ e) → number e ≡ y.number → Answers r y
work_refused r e y h f = let p = err_from_is_err_and r h in rw (p.1, p.2, f)

pub record_refused : (r : Result Recorded Refusal) (e : Refusal) (y : RecordStep) → IsErrAnd r (λ d. d ≡ e) → number e ≡ y.number → Records r y
record_refused r e y h f = let p = err_from_is_err_and r h in rw (p.1, p.2, f)

-- the number of an answer
pub recorded_number : (r : Result Recorded Refusal) (y : RecordStep) → Records r y → number_of r ≡ y.number
recorded_number (Ok x) y h = sym h.0
recorded_number (Err e) y h = sym h
