-- Products with a word below p: of a trace, which is at most 2·p, and of a number up to 16.
use mathlib.Core.List.{List}
use Prim.Native.Nat.{ℕ, ◌+◌, ◌*◌, ◌≤◌, ◌<◌}
use native.Mathlib.Nat.{mul-le-mul, mul-le-mul_right}
use native.Mathlib.Omega.{arith}
use lib.ListN.{get_or}
use Rattle.array.specs.Array.{Holds}
use Rattle.array.proofs.Padded.{holds_word}

pub trace_small : (p n i : ℕ) (s : List ℕ) → Holds (2 * p + 1) n s → i < n → get_or s i 0 ≤ 2 * p
trace_small p n i s h l = omega (arith, holds_word h i l)

pub product_small : (p a b : ℕ) → a ≤ 2 * p → b < p → a * b ≤ 2 * (p * p)
product_small p a b la lb =
    let h : a * b ≤ 2 * p * p = mul-le-mul la (omega arith) in
    omega (arith, h)

pub multiple_small : (p k b : ℕ) → k ≤ 16 → b < p → k * b ≤ 16 * (p * p)
multiple_small p k b few below =
    let one : 1 ≤ p = omega arith in
    let square : 1 * p ≤ p * p = mul-le-mul_right p one in
    mul-le-mul few (omega arith)
