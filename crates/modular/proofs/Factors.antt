-- Two numbers below 2·p, or up to it: their product fits, and may be reduced.
use mathlib.Core.Path.{◌≡◌}
use Prim.Native.Nat.{ℕ, ◌*◌, ◌≤◌, ◌<◌}
use native.Mathlib.Nat.{mul-le-mul, mul-le-mul_right}
use native.Mathlib.Omega.{arith}
use mir.Syntax.{w64}
use mir.Val.{Fits}
use Rattle.modular.specs.declared.barrett.Barrett.{Barrett}

pub product_small : (p x y : ℕ) → x ≤ 2 * p → y ≤ 2 * p → x * y ≤ 4 * (p * p)
product_small p x y lx ly = let square : x * y ≤ 2 * p * (2 * p) = mul-le-mul lx ly in omega arith

module _ (d : Barrett) (x y : ℕ) (lx : x < 2 * d.p) (ly : y < 2 * d.p) where
  pub few : x * y ≤ 64 * (d.p * d.p)
  few = omega (arith, product_small d.p x y (omega arith) (omega arith))

  pub factors_fit : Fits w64 (x * y)
  factors_fit =
      let small : d.p * d.p ≤ 1048576 * 1048576 = mul-le-mul d.reduces.small d.reduces.small in
      record { fits = omega (arith, product_small d.p x y (omega arith) (omega arith)) }

pub few_of_one : (p x : ℕ) → 2 ≤ p → x < 2 * p → x ≤ 64 * (p * p)
few_of_one p x big l =
    let square : 2 * p ≤ p * p = mul-le-mul_right p big in
    omega arith

-- a product of two words below p
pub words_few : (p x y r : ℕ) → x < p → y < p → r ≡ x * y → r ≤ 64 * (p * p)
words_few p x y r lx ly e = omega (arith, product_small p x y (omega arith) (omega arith))

pub words_fit : (d : Barrett) (x y : ℕ) → x < d.p → y < d.p → Fits w64 (x * y)
words_fit d x y lx ly = factors_fit d x y (omega arith) (omega arith)
