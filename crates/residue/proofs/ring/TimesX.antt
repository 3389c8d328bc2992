-- X·w as a step of Horner's rule with c = 0, for a residue w: q = p − top is the opposite of its top word.
use mathlib.Core.Path.{◌≡◌, refl, ap, ap₂, ◌∙◌}
use mathlib.Core.List.{List, ◌∷◌}
use Prim.Native.Nat.{ℕ, ◌+◌, ◌-◌, ◌*◌, ◌%◌, ◌≤◌}
use native.Mathlib.Nat as Nat
use native.Mathlib.Omega.{arith}
use lib.ListN.{get_or, take}
use Rattle.algebra.specs.Lists.{All}
use Rattle.array.specs.Words.{Words, none, more}
use Rattle.quotient.specs.Residue.{sum, scale, times_x}
use Rattle.quotient.proofs.Operations.{times_x_words}
use Rattle.array.specs.Array.{padded, Holds}
use Rattle.array.proofs.Padded.{holds_word}
use Rattle.residue.specs.Delayed.{reduced, Delayed, Stepped}
use Rattle.residue.proofs.DelayedProduct.{zero_times_plus, delayed_more, delayed_same}

-- the words of a residue are reduced

reduced_words : {p n : ℕ} {u : List ℕ} → Words p n u → reduced p u ≡ u
unfolding reduced
reduced_words none = refl
reduced_words (more h w) = ap₂ ◌∷◌ (Nat.mod-eq_of_lt h) (reduced_words w)

all_small : {p n : ℕ} {u : List ℕ} → Words p n u → All (λ a. a ≤ 1 * (3 * (p * p))) u
all_small none = tt
all_small {p} (more {a = a} h w) =
    let one : 1 ≤ p = omega arith in
    (omega (arith, Nat.mul-le-mul_right p one), all_small w)

holds_delayed : {p n : ℕ} {w : List ℕ} → Holds p n w → Delayed p n 1 (take n w) w
holds_delayed y = record { words = reduced_words y.words; small = all_small y.words; zeros = y.zeros }

pub stepped_delayed : (p n c : ℕ) (t v w w' : List ℕ) → Holds p n w → Stepped p n t c v w w' → Delayed p n 17 (reduced p (take n w')) w'
stepped_delayed p n c t v w w' y step = delayed_same (delayed_more (omega arith) (step.next 1 (take n w) (holds_delayed y)))

module _ (p n : ℕ) (t w : List ℕ) (big : 2 ≤ p) (x : Holds p n t) (y : Holds p n w) where
  pub word_delayed : Delayed p n 16 (reduced p (take n w)) w
  word_delayed = delayed_same (delayed_more (omega arith) (holds_delayed y))

  module _ (some : 1 ≤ n) where
    pub top_below : get_or w (n - 1) 0 ≤ p
    top_below = omega (arith, holds_word y (n - 1) (omega arith))

    pub opposite_zero : (p - get_or w (n - 1) 0 + get_or w (n - 1) 0) % p ≡ 0
    opposite_zero = ap (λ a. a % p) (Nat.sub-add_cancel top_below) ∙ Nat.mod_self p

  module _ (w' : List ℕ) (step : Stepped p n (take n t) 0 (take n t) w w') where
    stepped : Delayed p n 2 (sum p (scale p 0 (take n t)) (times_x p (take n t) (take n w))) w'
    stepped = step.next 1 (take n w) (holds_delayed y)

    pub times_x_is : (r : List ℕ) → r ≡ padded (reduced p (take n w')) → r ≡ padded (times_x p (take n t) (take n w))
    times_x_is r e = e ∙ ap padded (stepped.words ∙ zero_times_plus big x.words (times_x_words big x.words y.words))
