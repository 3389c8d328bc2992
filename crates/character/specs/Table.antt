-- What the contracts on the table of powers cite.
--   Table p k c   c has 128 words below p, and word j is 0 or j^k modulo p
--   Ascending x   none of the four numbers is below the one before it
use Rattle.std.specs.Prelude.{◌≡◌, List, ℕ, ◌%◌, ◌^◌, ◌≤◌, ◌<◌, length, get_or}

pub record Table (p k : ℕ) (c : List ℕ) : Type 0 where
  pub size : length c ≡ 128
  pub below : (j : ℕ) → j < 128 → get_or c j 0 < p
  pub known : (j : ℕ) → j < 128 → (get_or c j 0 ≡ 0 → ⊥) → get_or c j 0 ≡ j ^ k % p

pub record Ascending (x : List ℕ) : Type 0 where
  pub second : get_or x 0 0 ≤ get_or x 1 0
  pub third : get_or x 1 0 ≤ get_or x 2 0
  pub fourth : get_or x 2 0 ≤ get_or x 3 0
