-- The loop that adds c·x to sums of k terms: each product of two words below p is at most p².
--   Adding p k i w   before turn i the words of w are sums of k + 1 terms, and those from word i on still sums of k
use mathlib.Core.Path.{◌≡◌, ◌∙◌}
use mathlib.Core.List.{List}
use Prim.Native.Nat.{ℕ, ◌+◌, ◌*◌, ◌^◌, ◌≤◌, ◌<◌}
use native.Mathlib.Decide.{ℕ_discrete}
use native.Mathlib.Nat as Nat
use native.Mathlib.Omega.{arith}
use lib.ListN.{get_or, set, length-set}
use lib.Seq.{get_or-set_same, get_or-set_other}
use mir.Syntax.{w64}
use mir.Val.{Fits}
use Rattle.array.specs.Array.{Holds}
use Rattle.array.proofs.Padded.{holds_word}
use Rattle.resolvent.specs.Sums.{Sums}

pub record Adding (p k i : ℕ) (w : List ℕ) : Type 0 where
  pub sums : Sums p (k + 1) w
  pub rest : (j : ℕ) → i ≤ j → get_or w j 0 ≤ k * (p * p)

pub word_low : (p i : ℕ) (x : List ℕ) → p ≤ 2 ^ 20 → Holds p 16 x → i < 16 → get_or x i 0 < 2 ^ 32
word_low p i x few h l = omega (arith, holds_word h i l)

module _ (p k i : ℕ) (w : List ℕ) (h : Adding p k i w) where
  module _ (c r : ℕ) (x : List ℕ) (l : i < 16) (small : c < p) (y : Holds p 16 x) (e : r ≡ c * get_or x i 0) where
    word_small : get_or w i 0 + r ≤ (k + 1) * (p * p)
    word_small =
        let below : get_or x i 0 < p = holds_word y i l in
        let product : c * get_or x i 0 ≤ p * p = Nat.mul-le-mul (omega arith) (omega arith) in
        omega (arith, h.rest i (omega arith))

    pub word_fits : p ≤ 2 ^ 20 → k < 16 → Fits w64 (get_or w i 0 + r)
    word_fits few turns =
        let terms : k + 1 ≤ 16 = omega arith in
        omega (arith, word_small, Nat.mul-le-mul terms (Nat.mul-le-mul few few))

    pub add_turn : Adding p k (i + 1) (set w i (get_or w i 0 + r))
    add_turn =
        record {
          sums = record { size = length-set w i (get_or w i 0 + r) ∙ h.sums.size; small = λ j. by_place j (ℕ_discrete j i) };
          rest = λ j m. other j (omega arith) (h.rest j (omega arith));
        }
      where
        other : (j : ℕ) {b : ℕ} → (j ≡ i → ⊥) → get_or w j 0 ≤ b → get_or (set w i (get_or w i 0 + r)) j 0 ≤ b
        other j {b} f m = rw (get_or-set_other w i j (get_or w i 0 + r) 0 f) m

        by_place : (j : ℕ) → Dec (j ≡ i) → get_or (set w i (get_or w i 0 + r)) j 0 ≤ (k + 1) * (p * p)
        by_place j (yes f) = rw (f, get_or-set_same w i (get_or w i 0 + r) 0 (omega (arith, h.sums.size))) word_small
        by_place j (no f) = other j f (h.sums.small j)
