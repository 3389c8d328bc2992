-- Primes.
--   Prime p   2 ≤ p, and no d with 2 ≤ d < p divides p
use Rattle.std.specs.Prelude.{◌≡◌, ℕ, ◌%◌, ◌≤◌, ◌<◌}

abbrev pub Prime : ℕ → Type 0
Prime p = (2 ≤ p) × ((d : ℕ) → 2 ≤ d → d < p → p % d ≡ 0 → ⊥)
