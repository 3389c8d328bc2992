-- Sums whose reduction modulo p is put off.
--   Sums p k w   the array w has words that k products of words below p can add up to: each is at most k·p²
use Rattle.std.specs.Prelude.{◌≡◌, List, ℕ, ◌*◌, ◌≤◌, length, get_or}

pub record Sums (p k : ℕ) (w : List ℕ) : Type 0 where
  pub size : length w ≡ 16
  pub small : (i : ℕ) → get_or w i 0 ≤ k * (p * p)
