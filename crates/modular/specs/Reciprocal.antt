-- Reduction modulo p by a reciprocal.
--   IsReciprocal p shift r   2 ≤ p ≤ 2^20; 16·(2^shift − 1) ≤ p ≤ 32·2^shift; and r is the whole part of 2^(32 + shift) / p
use Rattle.std.specs.Prelude.{◌≡◌, ℕ, ◌+◌, ◌*◌, ◌/◌, ◌^◌, ◌≤◌}

pub record IsReciprocal (p shift r : ℕ) : Type 0 where
  pub big : 2 ≤ p
  pub small : p ≤ 2 ^ 20
  pub low : 2 ^ shift * 16 ≤ p + 16
  pub high : p ≤ 2 ^ shift * 32
  pub quotient : r ≡ 2 ^ 32 * 2 ^ shift / p
