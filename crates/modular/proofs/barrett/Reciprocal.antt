-- Reduction modulo p by the reciprocal r = 2^32·t / p, with t = 2^shift. For x = h·t + l with l < t, the quotient q = h·r / 2^32 is at most x / p and
-- less than 2 below it: leaving out l loses at most 1/16, rounding r at most h / 2^32 ≤ 15/16, and rounding q less than 1.
use mathlib.Core.Path.{◌≡◌, sym, ap, ◌∙◌}
use Prim.Native.Nat.{ℕ, ◌+◌, ◌-◌, ◌*◌, ◌/◌, ◌%◌, ◌^◌, ◌≤◌, ◌<◌}
use native.Mathlib.Nat as Nat
use native.Mathlib.Omega.{arith}
use lib.Pow.{pow_pos}
use Rattle.modular.specs.declared.barrett.Barrett.{Barrett}
use Rattle.modular.specs.Reciprocal.{IsReciprocal}
use Rattle.modular.proofs.Remainder.{remainder_unique}
use Rattle.modular.proofs.barrett.Shift.{shift_short}

-- the three roundings as inequalities, each multiplied out
quotient_bounds : (p r t x h l q : ℕ) → 0 < p → h * t + l ≡ x → l * 16 ≤ p → h * 16 ≤ 15 * 2 ^ 32 → r * p ≤ 2 ^ 32 * t → 2 ^ 32 * t ≤ r * p + p
    → q * 2 ^ 32 ≤ h * r → h * r < q * 2 ^ 32 + 2 ^ 32 → (q * p ≤ x) × (x < q * p + 2 * p)
quotient_bounds p r t x h l q pos split low high below above from to =
    let a : q * 2 ^ 32 * p ≤ h * r * p = Nat.mul-le-mul_right p from in
    let b : (h * r + 1) * p ≤ (q * 2 ^ 32 + 2 ^ 32) * p = Nat.mul-le-mul_right p (omega arith) in
    let c : h * (r * p) ≤ h * (2 ^ 32 * t) = Nat.mul-le-mul_left h below in
    let d : h * (2 ^ 32 * t) ≤ h * (r * p + p) = Nat.mul-le-mul_left h above in
    let e : h * 16 * p ≤ 15 * 2 ^ 32 * p = Nat.mul-le-mul_right p high in
    (omega arith, omega arith)

module _ (d : Barrett) where
  m : IsReciprocal d.p d.shift d.reciprocal
  m = d.reduces

  pub shift_fits : d.shift < 64
  shift_fits = omega (arith, shift_short d.p d.shift m.small m.low)

  positive : 0 < d.p
  positive = omega (arith, m.big)

  reciprocal_below : d.reciprocal * d.p ≤ 2 ^ 32 * 2 ^ d.shift
  reciprocal_below = rw m.quotient (Nat.div-mul-le_self (2 ^ 32 * 2 ^ d.shift) d.p)

  reciprocal_above : 2 ^ 32 * 2 ^ d.shift < d.reciprocal * d.p + d.p
  reciprocal_above = rw m.quotient (Nat.lt-div-mul-add positive)

  high_small : (x : ℕ) → 16 * x ≤ 15 * (2 ^ 32 * 2 ^ d.shift) → x / 2 ^ d.shift ≤ 15 * 2 ^ 28
  high_small x bound = Nat.div-le_of_le-mul (2 ^ d.shift) (omega arith)

  -- z is the product of which q is the high part
  bounds : (x z : ℕ) → 16 * x ≤ 15 * (2 ^ 32 * 2 ^ d.shift) → z ≡ x / 2 ^ d.shift * d.reciprocal → (z / 2 ^ 32 * d.p ≤ x) × (x < z / 2 ^ 32 * d.p + 2 * d.p)
  bounds x z bound e =
      let rest : x % 2 ^ d.shift < 2 ^ d.shift = Nat.mod-lt x (pow_pos d.shift) in
      quotient_bounds d.p d.reciprocal (2 ^ d.shift) x (x / 2 ^ d.shift) (x % 2 ^ d.shift) (z / 2 ^ 32)
      positive (Nat.div-add-mod' x (2 ^ d.shift)) (omega (arith, m.low)) (omega (arith, high_small x bound))
      reciprocal_below (omega (arith, reciprocal_above)) (omega arith) (omega arith)

  module _ (x : ℕ) (few : x ≤ 64 * (d.p * d.p)) where
    -- p ≤ 2^20 and p ≤ 32·2^shift
    bound : 16 * x ≤ 15 * (2 ^ 32 * 2 ^ d.shift)
    bound = omega (arith, Nat.mul-le-mul m.small m.high)

    module _ (z w : ℕ) (e : z ≡ x / 2 ^ d.shift * d.reciprocal) (f : w ≡ z / 2 ^ 32 * d.p) where
      pub near_below : w ≤ x
      near_below = omega (arith, bounds x z bound e)

      pub near_small : x - w < 2 * d.p
      near_small = omega (arith, bounds x z bound e)

      pub near_mod : (x - w) % d.p ≡ x % d.p
      near_mod =
          sym (Nat.add-mul-mod_self_right (x - w) (z / 2 ^ 32) d.p)
          ∙ ap (λ y. (x - w + y) % d.p) (sym f)
          ∙ ap (λ y. y % d.p) (Nat.sub-add_cancel near_below)

-- a number y below 2·p that is x modulo p
module _ (p x y : ℕ) (e : y % p ≡ x % p) (l : y < 2 * p) where
  pub opposite_mod : (2 * p - y + x) % p ≡ 0
  opposite_mod =
      let whole : 2 * p - y + y ≡ p * 2 = omega arith in
      sym (Nat.add-mod-mod (2 * p - y) x p)
      ∙ ap (λ k. (2 * p - y + k) % p) (sym e)
      ∙ Nat.add-mod-mod (2 * p - y) y p
      ∙ ap (λ k. k % p) whole
      ∙ Nat.mul-mod_right p 2

  pub once_more : p ≤ y → y - p ≡ x % p
  once_more h = remainder_unique y (y - p) 1 p (omega arith) (omega arith) ∙ e
