-- The loop of Newton's identities: its sum, of one product of at most 16·p and j products of at most 2·p², can be reduced.
--   Partial p j sum   sum is at most (16 + 2·j)·p²
use mathlib.Core.Path.{◌≡◌}
use mathlib.Core.List.{List}
use Prim.Native.Nat.{ℕ, ◌+◌, ◌-◌, ◌*◌, ◌^◌, ◌≤◌, ◌<◌}
use native.Mathlib.Nat.{mul-le-mul, mul-le-mul_right}
use native.Mathlib.Omega.{arith}
use lib.ListN.{get_or}
use mir.Syntax.{w64}
use mir.Val.{Fits}
use Rattle.array.specs.Array.{Holds}
use Rattle.array.proofs.Padded.{holds_word}
use Rattle.traces.proofs.Product.{trace_small, product_small, multiple_small}

-- the words of t that are read: word n − k − 1, those after it, and the last
module _ (p n k : ℕ) (t : List ℕ) (few : p ≤ 2 ^ 20) (h : Holds p n t) (l : k < n) where
  pub first_below : get_or t (n - k - 1) 0 < p
  first_below = holds_word h (n - k - 1) (omega arith)

  pub first_low : get_or t (n - k - 1) 0 < 2 ^ 32
  first_low = omega (arith, first_below)

  module _ (first j : ℕ) (e : first ≡ n - k - 1) (lj : j < k) where
    pub word_below : get_or t (first + j) 0 < p
    word_below = holds_word h (first + j) (omega arith)

    pub word_low : get_or t (first + j) 0 < 2 ^ 32
    word_low = omega (arith, word_below)

  pub last_below : get_or t (n - 1) 0 < p
  last_below = holds_word h (n - 1) (omega arith)

  pub last_low : get_or t (n - 1) 0 < 2 ^ 32
  last_low = omega (arith, last_below)

-- the traces that are read
module _ (p k j : ℕ) (s : List ℕ) (few : p ≤ 2 ^ 20) (h : Holds (2 * p + 1) k s) (l : j < k) where
  pub earlier_small : get_or s (j - 1) 0 ≤ 2 * p
  earlier_small = trace_small p k (j - 1) s h (omega arith)

  pub earlier_low : get_or s (j - 1) 0 < 2 ^ 32
  earlier_low = omega (arith, earlier_small)

pub record Partial (p j sum : ℕ) : Type 0 where
  pub few : sum ≤ (16 + 2 * j) * (p * p)

-- the product of k + 1 with a word
pub partial_start : (p n k b r : ℕ) → n ≤ 16 → k < n → b < p → r ≡ (k + 1) * b → Partial p 1 r
partial_start p n k b r short l below e = record { few = omega (arith, e, multiple_small p (k + 1) b (omega arith) below) }

module _ (p j sum a b r : ℕ) (s : Partial p j sum) (e : r ≡ a * b) (la : a ≤ 2 * p) (lb : b < p) where
  pub partial_turn : Partial p (j + 1) (sum + r)
  partial_turn =
      let h : a * b ≤ 2 * (p * p) = product_small p a b la lb in
      record { few = omega (arith, s.few) }

  module _ (n k : ℕ) (short : n ≤ 16) (lk : k < n) (lj : j ≤ k + 1) where
    pub partial_few : sum + r ≤ 64 * (p * p)
    partial_few =
        let turns : 16 + 2 * (j + 1) ≤ 64 = omega arith in
        omega (arith, partial_turn.few, mul-le-mul_right (p * p) turns)

    pub partial_fits : p ≤ 2 ^ 20 → Fits w64 (sum + r)
    partial_fits small = omega (arith, partial_few, mul-le-mul small small)

-- what the next trace is
pub opposite_below : (p r : ℕ) → r ≤ 2 * p → r < 2 * p + 1
opposite_below p r l = omega arith
