-- Powers of p: what the sieve's bounds rest on.
use mathlib.Core.Path.{◌≡◌, sym, subst, ◌∙◌}
use Prim.Native.Nat.{ℕ, suc, ◌+◌, ◌-◌, ◌*◌, ◌^◌, ◌≤◌, ◌<◌}
use native.Mathlib.Decide.{dec_le}
use native.Mathlib.Nat.{mul_comm, mul-le-mul_right, one-le-pow, pow-le-pow_right}
use native.Mathlib.Omega.{arith}
use lib.Pow.{pow-add}
use Rattle.algebra.proofs.PrimePowers as PrimePowers
use Rattle.algebra.proofs.PrimePowers.{pow-one}

-- so many blocks of p^n words each
pub power_parts : (p n k : ℕ) → p ^ k * p ^ n ≡ p ^ (n + k)
power_parts p n k = mul_comm (p ^ k) (p ^ n) ∙ sym (pow-add p n k)

module _ (p : ℕ) (big : 2 ≤ p) where
  pub power_positive : (n : ℕ) → 1 ≤ p ^ n
  power_positive n = one-le-pow n p (omega arith)

  pub power_monotone : (n m : ℕ) → n ≤ m → p ^ n ≤ p ^ m
  power_monotone n m h = pow-le-pow_right {n = p} (omega arith) h

  -- each power is at least twice the one before
  pub power_doubles : (n m : ℕ) → n < m → p ^ n + p ^ n ≤ p ^ m
  power_doubles n m h = let up : suc (m - 1) ≡ m = omega arith in subst (λ k. p ^ n + p ^ n ≤ p ^ k) up (PrimePowers.power_doubles p n (m - 1) big (omega arith))

-- where p^m is at most 65,536: p^n is at most 256 for n up to m/2, and p^k at most 32,768 for k below m

square_most : (x : ℕ) → x * x ≤ 65536 → x ≤ 256
square_most x few = by_size (dec_le x 256)
  where
    by_size : Dec (x ≤ 256) → x ≤ 256
    by_size (yes l) = l
    by_size (no l) = let first : 257 * x ≤ x * x = mul-le-mul_right x (omega arith) in absurd (omega arith)

module _ (p m : ℕ) (big : 2 ≤ p) (few : p ^ m ≤ 65536) where
  pub half_most : (n : ℕ) → n + n ≤ m → p ^ n ≤ 256
  half_most n le =
      let less : p ^ (n + n) ≤ p ^ m = power_monotone p big (n + n) m le in
      square_most (p ^ n) (omega (arith, less, few, pow-add p n n))

  pub lower_most : (k : ℕ) → k < m → p ^ k ≤ 32768
  lower_most k le = omega (arith, power_doubles p big k m le, few)

  pub prime_most : 2 ≤ m → p ≤ 256
  prime_most le = subst (λ x. x ≤ 256) (pow-one p) (half_most 1 le)
