-- The proofs of what the specs state.
use mathlib.Core.Path.{ap, ◌∙◌}
use mathlib.Core.List.{List, [], ◌∷◌}
use Prim.Native.Nat.{ℕ, zero, suc, ◌≤◌}
use native.Mathlib.Omega.{arith}
use Rattle.algebra.specs.Prime.{Prime}
use Rattle.array.specs.Words.{Words}
use Rattle.quotient.specs.Divisor.{HasDivisor}
use Rattle.quotient.specs.DivisorTest.{has_divisor}
use Rattle.quotient.specs.Residue.{Inverses}
use Rattle.quotient.proofs.Decision.{irreducible_test, test_irreducible}
use Rattle.refusal.specs.Refusal.{refuse}
use Rattle.refusal.proofs.Models.{sent_model, model_sent}
use Rattle.refusal.proofs.Order.{refuse_none, sent_given, given_sent}
use Rattle.irreducible.specs.Rabin.{RabinsCriterion}
use Rattle.irreducible.specs.Irreducible.{irreducible_number, IrreducibleTheorem}
use Rattle.irreducible.proofs.Criterion as Criterion
use Rattle.quotient.proofs.FieldModulus as FieldModulus

pub rabins_criterion : RabinsCriterion
rabins_criterion p n t prime wt = (Criterion.irreducible_rabin prime wt, Criterion.rabin_irreducible prime wt)

-- for every degree n ≥ 1
pub inverses_of : (p n : ℕ) (t : List ℕ) → Prime p → 1 ≤ n → Words p n t → (HasDivisor p t → ⊥) → Inverses p n t
inverses_of p zero t prime low wt = absurd (omega arith)
inverses_of p (suc n) t prime low wt = FieldModulus.irreducible_inverses prime wt

pub irreducible_of : (p n : ℕ) (t : List ℕ) → Prime p → 1 ≤ n → Words p n t → Inverses p n t → HasDivisor p t → ⊥
irreducible_of p zero t prime low wt = absurd (omega arith)
irreducible_of p (suc n) t prime low wt = FieldModulus.inverses_irreducible prime wt

pub irreducible_theorem : IrreducibleTheorem
unfolding irreducible_number
irreducible_theorem p n t = (
  λ h.
      let (sent, end) = sent_given p n (t ∷ []) (t ∷ []) _ h in
      let m = sent_model p n t sent in
      let none : HasDivisor p t → ⊥ = test_irreducible m.prime.0 m.modulus (refuse_none 5 (has_divisor p t) 0 end).0 in
      (m, none, inverses_of p n t m.prime m.degree.0 m.modulus none),
  λ m none.
      given_sent p n (t ∷ []) (t ∷ []) _ (model_sent p n t m) ∙ ap (λ b. refuse 6 b 0) (irreducible_test m.prime.0 m.modulus none),
)
