-- The rounds of Algorithm 4.1 in a model of degree n = p^k (document 02, S-7).
--   RoundsDecide   T has no monic divisor of degree 1 to n − 1 exactly when k rounds have their solutions, so that these decide 6 and 7
--   OneTower       a and α after k rounds are determined by the model
use Rattle.std.specs.Prelude.{◌≡◌, List, ◌↔◌, ℕ, ◌^◌, ◌≤◌}
use Rattle.refusal.specs.Models.{Model}
use Rattle.quotient.specs.Divisor.{HasDivisor}
use Rattle.galois.specs.Tower.{Rounds}

abbrev pub RoundsDecide : Type 0
RoundsDecide =
    (p n k : ℕ) (t : List ℕ) → Model p n t → 1 ≤ k → n ≡ p ^ k → (HasDivisor p t → ⊥) ↔ ((a : List ℕ) × (α : List ℕ) × Rounds p n t k a α)

abbrev pub OneTower : Type 0
OneTower =
    (p n k : ℕ) (t : List ℕ) → Model p n t → 1 ≤ k → n ≡ p ^ k
    → (a α a' α' : List ℕ) → Rounds p n t k a α → Rounds p n t k a' α' → (a ≡ a') × (α ≡ α')
