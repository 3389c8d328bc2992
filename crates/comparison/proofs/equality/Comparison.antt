-- Two lists of n words compared word by word: by `==`, and by a loop, where after i words that agree the words from i on decide.
--   Left n xs ys i   both have n words, and whether they are equal is whether they are from i on
use mathlib.Core.Path.{◌≡◌, refl, sym, ap, ap₂, ◌∙◌}
use mathlib.Core.Bool.{Bool, true, false, ◌&&◌}
use mathlib.Core.List.{List, [], ◌∷◌}
use Prim.Native.Nat.{ℕ, ◌+◌, ◌%◌, ◌≤◌, ◌<◌}
use native.Mathlib.Numerals.{add-one}
use native.Mathlib.Omega.{arith}
use lib.Dec.{eqb}
use lib.Pointwise.{pointwise}
use lib.ListN.{length, get_or, take, drop, drop_of_length-le, get_or-replicate}
use lib.Seq.{drop-cons, get_or-take}
use borrow.Author.Tests.{eq-eqb, ne_eqb}
use Rattle.algebra.specs.Lists.{equal}
use Rattle.quotient.specs.Residue.{sum, constant, residue_of_x}
use Rattle.quotient.proofs.Operations.{sum_words, constant-zero, constant-length, residue_of_x_words}
use Rattle.array.proofs.Words.{words_length}
use Rattle.array.specs.Array.{padded, Holds}
use Rattle.array.proofs.Padded.{array_length, holds_is, front_is}
use Rattle.quotient.proofs.SumOfPowers.{sum_word}

pub record Left (n : ℕ) (xs ys : List ℕ) (i : ℕ) : Type 0 where
  pub first_length : length xs ≡ n
  pub second_length : length ys ≡ n
  pub rest : equal xs ys ≡ equal (drop i xs) (drop i ys)

module _ (n : ℕ) (xs ys : List ℕ) (i : ℕ) (h : Left n xs ys i) where
  -- the words at i, and those after it
  equal_from : i < n → equal xs ys ≡ (eqb (get_or xs i 0) (get_or ys i 0) && equal (drop (i + 1) xs) (drop (i + 1) ys))
  unfolding equal
  equal_from l =
      h.rest
      ∙ ap₂ equal (drop-cons xs i 0 (omega (arith, h.first_length))) (drop-cons ys i 0 (omega (arith, h.second_length)))
      ∙ ap (λ k. eqb (get_or xs i 0) (get_or ys i 0) && equal (drop k xs) (drop k ys)) (sym (add-one i))

  left_next : i < n → get_or xs i 0 ≡ get_or ys i 0 → Left n xs ys (i + 1)
  left_next l e = record {
    first_length = h.first_length;
    second_length = h.second_length;
    rest = equal_from l ∙ ap (λ b. b && equal (drop (i + 1) xs) (drop (i + 1) ys)) (eq-eqb (get_or xs i 0) (get_or ys i 0) e);
  }

  left_fails : i < n → (get_or xs i 0 ≡ get_or ys i 0 → ⊥) → false ≡ equal xs ys
  left_fails l e = sym (equal_from l ∙ ap (λ b. b && equal (drop (i + 1) xs) (drop (i + 1) ys)) (ne_eqb (get_or xs i 0) (get_or ys i 0) e))

  pub left_none : n ≤ i → true ≡ equal xs ys
  unfolding equal
  left_none l =
      let past_first : length xs ≤ i = omega (arith, h.first_length) in
      let past_second : length ys ≤ i = omega (arith, h.second_length) in
      sym (h.rest ∙ ap₂ equal (drop_of_length-le xs past_first) (drop_of_length-le ys past_second))

-- `==` of two lists
pub same_words : (xs ys : List ℕ) → pointwise eqb xs ys ≡ equal xs ys
unfolding equal
same_words [] [] = refl
same_words [] (b ∷ ys) = refl
same_words (a ∷ xs) [] = refl
same_words (a ∷ xs) (b ∷ ys) = ap (λ r. eqb a b && r) (same_words xs ys)

-- the words of a sum, and 0

module _ (p n : ℕ) (u v : List ℕ) (x : Holds p n u) (y : Holds p n v) where
  pub opposite_starts : Left n (sum p (take n u) (take n v)) (constant n 0) 0
  opposite_starts = record { first_length = words_length (sum_words x.words y.words); second_length = constant-length n 0; rest = refl }

  module _ (i a : ℕ) (h : Left n (sum p (take n u) (take n v)) (constant n 0) i) (l : i < n) (e : a ≡ (get_or u i 0 + get_or v i 0) % p) where
    sum_at : get_or (sum p (take n u) (take n v)) i 0 ≡ a
    sum_at = sum_word x.words y.words i l ∙ ap₂ (λ b c. (b + c) % p) (get_or-take n u i 0 l) (get_or-take n v i 0 l) ∙ sym e

    zero_at : get_or (constant n 0) i 0 ≡ 0
    zero_at = ap (λ l. get_or l i 0) (constant-zero n) ∙ get_or-replicate n i 0 0 l

    pub opposite_next : a ≡ 0 → Left n (sum p (take n u) (take n v)) (constant n 0) (i + 1)
    opposite_next z = left_next n (sum p (take n u) (take n v)) (constant n 0) i h l (sum_at ∙ z ∙ sym zero_at)

    pub opposite_fails : (a ≡ 0 → ⊥) → false ≡ equal (sum p (take n u) (take n v)) (constant n 0)
    opposite_fails z = left_fails n (sum p (take n u) (take n v)) (constant n 0) i h l (λ f. z (sym sum_at ∙ f ∙ zero_at))

-- X modulo T

module _ (p n : ℕ) (t x : List ℕ) (big : 2 ≤ p) (short : n ≤ 16) (h : Holds p n t) (e : x ≡ padded (residue_of_x p (take n t))) where
  pub x-length : length x ≡ 16
  x-length = array_length n x short (holds_is e (residue_of_x_words big h.words)).zeros

  pub x_decides : (u : List ℕ) (c : Bool) → c ≡ equal (take n u) (take n x) → c ≡ equal (take n u) (residue_of_x p (take n t))
  x_decides u c f = f ∙ ap (equal (take n u)) (front_is e (residue_of_x_words big h.words))
