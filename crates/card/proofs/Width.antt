-- The width of a card's words: the least w with p − 1 < 2^w, which is the number of binary digits
-- of p − 1. Up to 1,048,575 it is at most 20, and every number below p has w bits.
use mathlib.Core.Path.{◌≡◌}
use mathlib.Core.Bool.{Bool}
use Prim.Native.Nat.{ℕ, zero, suc, ◌+◌, ◌-◌, ◌*◌, ◌^◌, ◌≤◌, ◌<◌}
use mathlib.Core.Logic.{◌⊎◌, inl, inr}
use native.Mathlib.Nat.{le_antisymm, mul-le-mul, pow-suc}
use native.Mathlib.Omega.{arith}
use lib.Dec.{ltb, lit≤}
use lib.Pow.{pow_mono}
use Rattle.std.specs.Int.Count.{count_leading_zeros}
use Rattle.std.proofs.lemmas.Nat.{leading_length}
use Rattle.std.proofs.lemmas.Bool.{cases_lt}
use borrow.Author.Tests.{ltb-true, lt-ltb}
use Rattle.algebra.specs.Lists.{range}
use Rattle.algebra.proofs.Search.{range_bounds, range_member, first_found, first_smallest, Found}
use Rattle.modular.specs.Prime.{largest_prime}
use Rattle.card.specs.Card.{width}

abbrev enough : ℕ → ℕ → Bool
enough p w = ltb (p - 1) (2 ^ w)

width_found : (p : ℕ) → p ≤ largest_prime → Found (enough p) (range 0 21) (width p)
unfolding width
width_found p h = first_found (enough p) 0 (range 0 21) 20 (range_member 0 21 20 (lit≤ tt) (lit≤ tt)) (lt-ltb (p - 1) (2 ^ 20) (omega arith))

width_enough : (p : ℕ) → p ≤ largest_prime → p - 1 < 2 ^ width p
width_enough p h = ltb-true (p - 1) (2 ^ width p) (width_found p h).1

pub width_most : (p : ℕ) → p ≤ largest_prime → width p ≤ 20
width_most p h = omega (arith, range_bounds 0 21 (width p) (width_found p h).0)

width_least : (p w : ℕ) → w ≤ 20 → p - 1 < 2 ^ w → width p ≤ w
unfolding width
width_least p w l h = first_smallest (enough p) 0 0 21 w (omega arith) (omega arith) (lt-ltb (p - 1) (2 ^ w) h)

pub width_positive : (p : ℕ) → 2 ≤ p → p ≤ largest_prime → 1 ≤ width p
width_positive p l h = by_width (width p) (width_enough p h)
  where
    by_width : (w : ℕ) → p - 1 < 2 ^ w → 1 ≤ w
    by_width zero k = absurd (omega arith)
    by_width (suc w) k = omega arith

pub width_holds : (p : ℕ) → p ≤ largest_prime → p ≤ 2 ^ width p
width_holds p h = omega (arith, width_enough p h)

-- 64 words of 20 bits have 1,280 bits
pub bits_most : (w count : ℕ) → w ≤ 20 → count ≤ 64 → count * w ≤ 1280
bits_most w count lw lc = mul-le-mul lc lw

-- 2^m is at most twice p − 1, and one more: so m is the least
width_leading : (p m : ℕ) → p ≤ largest_prime → p - 1 < 2 ^ m → 2 ^ m ≤ 2 * (p - 1) + 1 → m ≡ width p
width_leading p m h k l = le_antisymm (by_order (cases_lt (width p) m)) (width_least p m (small (cases_lt 20 m)) k)
  where
    by_order : (width p < m) ⊎ (m ≤ width p) → m ≤ width p
    by_order (inl f) =
        let doubled : 2 ^ suc (width p) ≤ 2 ^ m = pow_mono f in
        absurd (omega (arith, doubled, pow-suc 2 (width p), width_enough p h))
    by_order (inr f) = f

    small : (20 < m) ⊎ (m ≤ 20) → m ≤ 20
    small (inl f) =
        let more : 2 ^ 21 ≤ 2 ^ m = pow_mono f in
        absurd (omega arith)
    small (inr f) = f

-- the digits of p − 1 among 32
pub width_digits : (p before : ℕ) → p ≤ largest_prime → before ≡ p - 1 → (32 - count_leading_zeros 32 before ≡ width p) × (32 - count_leading_zeros 32 before ≤ 20)
width_digits p before h e =
    let (m, sum, below, above) = leading_length 32 before (omega arith) in
    let is : m ≡ width p = width_leading p m h (omega arith) (omega arith) in
    (omega arith, omega (arith, width_most p h))
