-- Sums of products whose reduction modulo p is put off.
--   Sums p n k w   the array w has 16 words, of which the first n are at most 2·k·p²: sums of k products
use Rattle.std.specs.Prelude.{◌≡◌, List, ℕ, ◌*◌, ◌≤◌, ◌<◌, length, get_or}

pub record Sums (p n k : ℕ) (w : List ℕ) : Type 0 where
  pub size : length w ≡ 16
  pub few : (j : ℕ) → j < n → get_or w j 0 ≤ k * (2 * (p * p))
