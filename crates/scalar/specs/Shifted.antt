-- A matrix minus a number.
--   Shifted p n z m c   the matrix c is m − z: z is subtracted on the diagonal
use Rattle.std.specs.Prelude.{◌≡◌, List, ℕ, ◌+◌, ◌-◌, ◌%◌, ◌<◌, length}
use Rattle.array.specs.Array.{entry}

pub record Shifted (p n z : ℕ) (m c : List ℕ) : Type 0 where
  pub size : length c ≡ 256
  pub diagonal : (i : ℕ) → i < n → entry c i i ≡ (entry m i i + (p - z)) % p
  pub others : (i j : ℕ) → i < n → j < n → (j ≡ i → ⊥) → entry c i j ≡ entry m i j
