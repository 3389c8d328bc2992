-- The shift of a divisor p: the place j of the highest bit of p, 2^j ≤ p < 2^(j + 1), less four, or 0.
use mathlib.Core.Path.{◌≡◌, sym, ap, ◌∙◌}
use Prim.Native.Nat.{ℕ, suc, ◌+◌, ◌-◌, ◌*◌, ◌^◌, ◌≤◌, ◌<◌}
use native.Mathlib.Decide.{dec_lt}
use native.Mathlib.Nat as Nat
use native.Mathlib.Omega.{arith}
use lib.Count.{count_leading_zeros, leading_top}
use lib.Pow.{pow_mono, pow-add}

module _ (p : ℕ) (big : 2 ≤ p) (small : p ≤ 2 ^ 20) where
  top_bit : (j : ℕ) × (64 - count_leading_zeros 64 p ≡ suc j) × (2 ^ j ≤ p) × (p < 2 ^ suc j)
  top_bit =
      let (j, sum, from, to) = leading_top 64 p (omega arith) (omega arith) in
      (j, omega arith, from, to)

  pub shift_none : 64 - count_leading_zeros 64 p < 5 → (2 ^ 0 * 16 ≤ p + 16) × (p ≤ 2 ^ 0 * 32)
  shift_none few =
      let (j, same, from, to) = top_bit in
      let l : suc j ≤ 5 = omega arith in
      (omega arith, omega (arith, pow_mono l))

  pub shift_some : 5 ≤ 64 - count_leading_zeros 64 p → (2 ^ (64 - count_leading_zeros 64 p - 5) * 16 ≤ p + 16) × (p ≤ 2 ^ (64 - count_leading_zeros 64 p - 5) * 32)
  shift_some many =
      let k : ℕ = 64 - count_leading_zeros 64 p - 5 in
      let (j, same, from, to) = top_bit in
      let e : k + 4 ≡ j = omega arith in
      let f : 2 ^ k * 16 ≡ 2 ^ j = sym (pow-add 2 k 4) ∙ ap (λ i. 2 ^ i) e in
      (omega arith, omega (arith, Nat.pow-suc 2 j))

pub shift_short : (p k : ℕ) → p ≤ 2 ^ 20 → 2 ^ k * 16 ≤ p + 16 → k < 17
shift_short p k small low = go (dec_lt k 17)
  where
    go : Dec (k < 17) → k < 17
    go (yes l) = l
    go (no l) =
        let h : 17 ≤ k = omega arith in
        absurd (omega (arith, pow_mono h))
