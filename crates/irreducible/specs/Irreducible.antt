-- The call for one modulus (request S-3: "refuse moduli with a proper divisor, for every n up to 16").
--   irreducible_number p n t   its answer: 1, 2, 3, 4, then 6 where T has a monic divisor of degree 1 to n − 1, or 0
--   IrreducibleTheorem         what the answer 0 means: a model without such a divisor, so that every residue but 0 has an inverse
use Rattle.std.specs.Prelude.{◌≡◌, List, [], ◌∷◌, ℕ}
use Rattle.quotient.specs.Divisor.{HasDivisor}
use Rattle.quotient.specs.DivisorTest.{has_divisor}
use Rattle.quotient.specs.Residue.{Inverses}
use Rattle.refusal.specs.Models.{Model}
use Rattle.refusal.specs.Refusal.{refuse, refuse_sent}

unfoldable pub irreducible_number : ℕ → ℕ → List ℕ → ℕ
irreducible_number p n t = refuse_sent p n (t ∷ []) (t ∷ []) (refuse 6 (has_divisor p t) 0)

abbrev pub IrreducibleTheorem : Type 0
IrreducibleTheorem =
    (p n : ℕ) (t : List ℕ)
    → (irreducible_number p n t ≡ 0 → Model p n t × (HasDivisor p t → ⊥) × Inverses p n t)
    × (Model p n t → (HasDivisor p t → ⊥) → irreducible_number p n t ≡ 0)
