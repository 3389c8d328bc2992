-- What a search among numbers, or a test, is to answer.
--   Smallest P p k   k is the smallest integer from 1 to p − 1 that satisfies P
--   Decides r P      the answer r says whether P holds
use Rattle.std.specs.Prelude.{◌≡◌, Bool, true, false, ℕ, ◌≤◌, ◌<◌}

abbrev pub Smallest : (ℕ → Type 0) → ℕ → ℕ → Type 0
Smallest P p k = (1 ≤ k) × (k < p) × P k × ((j : ℕ) → 1 ≤ j → j < k → P j → ⊥)

pub record Decides (r : Bool) (P : Type 0) : Type 0 where
  pub if_true : r ≡ true → P
  pub if_false : r ≡ false → P → ⊥
