-- The call's answer, and what the output list holds after it; m is the length that is asked for.
use mathlib.Core.Path.{◌≡◌, refl, sym, ap, ◌∙◌}
use mathlib.Core.Bool.{Bool, true, false, not, false≢true}
use mathlib.Core.List.{List}
use Prim.Native.Nat.{ℕ}
use lib.Dec.{eqb}
use lib.ListN.{length}
use Rattle.std.specs.Prelude.{Result, Ok, Err}
use Rattle.std.specs.Result.{result_eq}
use Rattle.refusal.specs.Models.{Given}
use Rattle.refusal.specs.Number.{number_of}
use Rattle.refusal.specs.declared.number.Refusal.{Refusal}
use Rattle.refusal.proofs.Refused.{refused}
use Rattle.refusal.proofs.Written.{output_new, output_old}
use Rattle.pair.specs.Pair.{check_number_or}
use Rattle.pair.proofs.Refusals.{accepted_output}
use Rattle.pair.proofs.Theorem.{checker_theorem}
use Rattle.sheet.specs.Sheet.{sheet_text, sheet_length, sheet_number, sheet_output}

-- the test whether an answer is a success
module _ (same_unit : Unit {0} → Unit {0} → Bool) (same_refusal : Refusal → Refusal → Bool) where
  pub succeeds : (checked : Result (Unit {0}) Refusal) → true ≡ result_eq same_unit same_refusal checked (Ok tt) → number_of checked ≡ 0
  succeeds (Ok x) h = refl
  succeeds (Err e) h = absurd (false≢true (sym h))

  pub fails : (checked : Result (Unit {0}) Refusal) → ((x : Unit {0}) → same_unit x tt ≡ true) → false ≡ result_eq same_unit same_refusal checked (Ok tt)
      → number_of checked ≡ 0 → ⊥
  fails (Ok x) one h z = false≢true (h ∙ one x)
  fails (Err e) one h z = refused e z

module _ (p n number m : ℕ) (t1 t2 s r out : List ℕ) (asked : m ≡ sheet_length n) (e : number ≡ check_number_or (not (eqb (length out) m)) p n t1 t2 s r) where
  pub number_is : number ≡ sheet_number p n t1 t2 s r out
  unfolding sheet_number
  number_is = e ∙ ap (λ k. check_number_or (not (eqb (length out) k)) p n t1 t2 s r) asked

  pub refused_output : (number ≡ 0 → ⊥) → out ≡ sheet_output p n t1 t2 s r out
  unfolding sheet_output
  refused_output h = output_old number (sheet_number p n t1 t2 s r out) (sheet_text p n t1 t2 s r) out number_is h

  module _ (h : number ≡ 0) where
    pub accepted_given : Given p n t1 t2 s r
    accepted_given = ((checker_theorem p n t1 t2 s r).0 (accepted_output p n number m t1 t2 s r out e h).1).0

    pub accepted_length : length out ≡ sheet_length n
    accepted_length = (accepted_output p n number m t1 t2 s r out e h).0 ∙ asked

    pub new_output : (after : List ℕ) → after ≡ sheet_text p n t1 t2 s r → after ≡ sheet_output p n t1 t2 s r out
    unfolding sheet_output
    new_output after f = output_new number (sheet_number p n t1 t2 s r out) (sheet_text p n t1 t2 s r) out after number_is h f
