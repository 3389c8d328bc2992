-- The loop of `power`, with the divisor's reciprocal.
--   PowerLoop d p a k r b e   d is the divisor p, and r·b^e = a^k modulo p
use mathlib.Core.Path.{◌≡◌, sym, subst}
use Prim.Native.Nat.{ℕ, ◌*◌, ◌/◌, ◌%◌, ◌^◌, ◌≤◌, ◌<◌}
use native.Mathlib.Nat.{mod-lt}
use native.Mathlib.Omega.{arith}
use Rattle.modular.specs.declared.barrett.Barrett.{Barrett}
use Rattle.modular.proofs.Factors.{few}
use Rattle.modular.proofs.Remainder.{PowerLeft, power_start, power_even, power_odd}

pub record PowerLoop (d : Barrett) (p a k r b e : ℕ) : Type 0 where
  pub modulus : d.p ≡ p
  pub left : PowerLeft d.p a k r b e

-- modulo 1
pub power_of_one : (p a k : ℕ) → 0 < p → p < 2 → 0 ≡ a ^ k % p
power_of_one p a k pos l = let below : a ^ k % p < p = mod-lt (a ^ k) pos in omega arith

pub loop_start : (d : Barrett) (p a k b : ℕ) → d.p ≡ p → b ≡ a % p → PowerLoop d p a k 1 b k
loop_start d p a k b e eb = record { modulus = e; left = power_start d.p a k b d.reduces.big (subst (λ q. b ≡ a % q) (sym e) eb) }

module _ (d : Barrett) (p a k r b e : ℕ) (h : PowerLoop d p a k r b e) where
  pub product_few : r * b ≤ 64 * (d.p * d.p)
  product_few = few d r b h.left.below h.left.factor_below

  pub square_few : b * b ≤ 64 * (d.p * d.p)
  square_few = few d b b h.left.factor_below h.left.factor_below

  pub loop_even : (c s : ℕ) → (e % 2 ≡ 1 → ⊥) → s ≡ r → c % d.p ≡ (b * b) % d.p → c < 2 * d.p → PowerLoop d p a k s c (e / 2)
  loop_even c s even es ec lc = record { modulus = h.modulus; left = power_even d.p a k r b e h.left c s even es ec lc }

  pub loop_odd : (c s x : ℕ) → e % 2 ≡ 1 → x % d.p ≡ (r * b) % d.p → x < 2 * d.p → s ≡ x → c % d.p ≡ (b * b) % d.p → c < 2 * d.p → PowerLoop d p a k s c (e / 2)
  loop_odd c s x odd ex lx es ec lc =
      record { modulus = h.modulus; left = power_odd d.p a k r b e h.left c s x odd ex lx es ec lc }
