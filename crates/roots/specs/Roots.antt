-- Roots of unity and n-th roots modulo p (document 01, "The finder"; document 02, S-6).
--   zeta p n                the smallest integer from 1 to p − 1 with ζ^n = 1 mod p and no ζ^m = 1 for 1 ≤ m < n
--   radicand p n z          a, of which each αi is an n-th root: the smallest integer from 1 to p − 1 with a^((p − 1)/n) = z mod p
-- What the contracts of this crate cite:
--   Admissible p n            p is a prime up to 2^20, and n from 1 to 16 divides p − 1
--   OrderModulo p n w         w has order n modulo p: w^n = 1 and no w^m for 1 ≤ m < n
--   Radicand p n z a          a is from 1 to p − 1, and a^((p − 1)/n) = z modulo p
--   root_of_ratio p n a1 a2   the smallest n-th root of a1/a2: the smallest integer c from 1 to p − 1 with c^n·a2 = a1 mod p
--   Solvable p n a1 a2        a1 and a2 are from 1 to p − 1, and c^n·a2 = a1 modulo p has a solution, of which `root_of_ratio` finds the smallest
use Rattle.std.specs.Prelude.{◌≡◌, ◌&&◌, not, ℕ, ◌-◌, ◌*◌, ◌/◌, ◌%◌, ◌^◌, ◌≤◌, ◌<◌, eqb}
use Rattle.algebra.specs.Lists.{all, range, first}
use Rattle.algebra.specs.Prime.{Prime}
use Rattle.algebra.specs.Search.{Smallest}

unfoldable pub zeta : ℕ → ℕ → ℕ
zeta p n = first (λ z. eqb (z ^ n % p) 1 && all (λ m. not (eqb (z ^ m % p) 1)) (range 1 (n - 1))) 0 (range 1 (p - 1))

unfoldable pub radicand : ℕ → ℕ → ℕ → ℕ
radicand p n z = first (λ a. eqb (a ^ ((p - 1) / n) % p) z) 0 (range 1 (p - 1))

unfoldable pub root_of_ratio : ℕ → ℕ → ℕ → ℕ → ℕ
root_of_ratio p n a1 a2 = first (λ c. eqb (c ^ n * a2 % p) a1) 0 (range 1 (p - 1))

pub record Admissible (p n : ℕ) : Type 0 where
  pub prime : Prime p
  pub small : p ≤ 1048576
  pub low : 1 ≤ n
  pub high : n ≤ 16
  pub divides : (p - 1) % n ≡ 0

abbrev pub OrderModulo : ℕ → ℕ → ℕ → Type 0
OrderModulo p n w = (w ^ n % p ≡ 1) × ((m : ℕ) → 1 ≤ m → m < n → w ^ m % p ≡ 1 → ⊥)

pub record Radicand (p n z a : ℕ) : Type 0 where
  pub positive : 0 < a
  pub below : a < p
  pub power_is : a ^ ((p - 1) / n) % p ≡ z

pub record Solvable (p n a1 a2 : ℕ) : Type 0 where
  pub positive1 : 0 < a1
  pub positive2 : 0 < a2
  pub below1 : a1 < p
  pub below2 : a2 < p
  pub smallest : Smallest (λ c. c ^ n * a2 % p ≡ a1) p (root_of_ratio p n a1 a2)
