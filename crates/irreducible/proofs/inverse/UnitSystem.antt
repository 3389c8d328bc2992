-- The system v·w = 1 modulo T, whose matrix has the multiples X^k·w as columns. A regular one has a solution, an inverse of w. A singular one has a v other than 0 with
-- v·w = 0; an inverse y of w would give v = v·(w·y) = (v·w)·y = 0.
use mathlib.Core.Path.{◌≡◌, sym, ap, ◌∙◌}
use mathlib.Core.Bool.{Bool}
use mathlib.Core.List.{List}
use Prim.Native.Nat.{ℕ, ◌+◌, ◌%◌, ◌≤◌, ◌<◌}
use native.Mathlib.Nat.{mod-eq_of_lt, zero-mod}
use native.Mathlib.Omega.{arith}
use lib.ListN.{length, get_or, take, set, replicate, get_or-replicate}
use lib.Seq.{get_or-take}
use Rattle.algebra.specs.Prime.{Prime}
use Rattle.algebra.specs.Ring.{CommutativeRing}
use Rattle.algebra.specs.Search.{Decides}
use Rattle.algebra.proofs.RingLaws.{zero-mul}
use Rattle.array.specs.Array.{Holds, Square, row_product}
use Rattle.array.specs.Words.{Words}
use Rattle.array.proofs.Padded.{words_at, front_is, holds_is}
use Rattle.array.proofs.Words.{words_length, words_same}
use Rattle.linear.specs.System.{Outcome}
use Rattle.matrix.specs.Matrix.{Multiples, multiple}
use Rattle.matrix.proofs.MultiplicationMatrix.{row_multiplies}
use Rattle.quotient.specs.Residue.{Residue, constant, product, HasInverse}
use Rattle.quotient.proofs.FieldModulus.{has_inverse, inverse_of}
use Rattle.quotient.proofs.Operations.{constant_words, constant-zero, product_words, residue_path}
use Rattle.quotient.proofs.Reduction.{mul_is, one_is, zero_is}
use Rattle.quotient.proofs.Ring.{residue_ring}
use Rattle.residue.proofs.Power.{constant_array}

-- the right side
pub one_holds : (p n : ℕ) → Prime p → 1 ≤ n → n ≤ 16 → Holds p n (set (replicate 16 0) 0 1)
one_holds p n prime some short = holds_is (constant_array n 1 some short) (constant_words n prime.0)

-- what elimination requires of the matrix
pub multiples_square : (p n k : ℕ) (t w m : List ℕ) → k ≤ 16 → Multiples p n t w m → Square p k m
multiples_square p n k t w m short h = record { size = h.square.size; below = λ i j li lj. h.square.below i j (omega arith) (omega arith) }

module _ {p n : ℕ} {t w m : List ℕ} (big : 2 ≤ p) (wt : Words p n t) (ww : Words p n w) (h : Multiples p n t w m) where
  -- a solution of M·v = b satisfies v·w = b
  solution_product : {v b : List ℕ} → Words p n v → Words p n b → ((i : ℕ) → i < n → row_product m i 0 v % p ≡ get_or b i 0) → product p t v w ≡ b
  unfolding multiple
  solution_product {v} wv wb solves =
      words_same (product_words big wt v ww) wb
      (λ i l. let fits : 0 + length v ≤ n = omega (arith, words_length wv) in sym (row_multiplies big wt ww h i l v 0 fits) ∙ solves i l)

  abbrev K : CommutativeRing (Residue p n)
  K = residue_ring big wt

  abbrev a : Residue p n
  a = (w, ww)

  -- v·w = 0 and w·y = 1 make v = 0
  no_inverse : (v : Residue p n) → product p t v.0 w ≡ constant n 0 → (v.0 ≡ constant n 0 → ⊥) → HasInverse p t w → ⊥
  no_inverse v zero other h =
      let (y, one) = inverse_of big wt a h in
      let none : K.mul v a ≡ K.zero = residue_path (mul_is big wt v a ∙ zero ∙ sym (zero_is big wt)) in
      other (ap (λ u. u.0) (sym (K.mul-one v) ∙ ap (K.mul v) (sym one) ∙ sym (K.mul_assoc v a y) ∙ ap (λ u. K.mul u y) none ∙ zero-mul K y) ∙ zero_is big wt)

  -- w·v = v·w = 1
  inverse_found : {v : List ℕ} → Words p n v → product p t v w ≡ constant n 1 → HasInverse p t w
  inverse_found {v} wv e =
      let b : Residue p n = (v, wv) in
      has_inverse big wt a (b, K.mul_comm a b ∙ residue_path (mul_is big wt b a ∙ e ∙ sym (one_is big wt)))

-- the answer of elimination

module _ (p n : ℕ) (t w m : List ℕ) (prime : Prime p) (some : 1 ≤ n) (short : n ≤ 16) (ht : Holds p n t) (hw : Holds p n w) (h : Multiples p n (take n t) (take n w) m) where
  abbrev one : List ℕ
  one = set (replicate 16 0) 0 1

  one_word : (i : ℕ) → i < n → get_or one i 0 % p ≡ get_or (constant n 1) i 0
  one_word i l =
      let w1 : Words p n (constant n 1) = constant_words n prime.0 in
      ap (λ x. x % p) (sym (get_or-take n one i 0 l) ∙ ap (λ u. get_or u i 0) (front_is (constant_array n 1 some short) w1)) ∙ mod-eq_of_lt (words_at w1 i l)

  zero_word : (i : ℕ) → i < n → 0 % p ≡ get_or (constant n 0) i 0
  zero_word i l = zero-mod p ∙ sym (ap (λ u. get_or u i 0) (constant-zero n) ∙ get_or-replicate n i 0 0 l)

  pub regular_decides : (r : Bool) (v : List ℕ) → Outcome p n m one r v → Decides r (HasInverse p (take n t) (take n w))
  regular_decides r v outcome = record {
    if_true = λ e.
        inverse_found prime.0 ht.words hw.words h outcome.holds.words
        (solution_product prime.0 ht.words hw.words h outcome.holds.words (constant_words n prime.0) (λ i l. (outcome.if_regular e).solves i l ∙ one_word i l));
    if_false = λ e.
        no_inverse prime.0 ht.words hw.words h (take n v, outcome.holds.words)
        (solution_product prime.0 ht.words hw.words h outcome.holds.words (constant_words n (omega (arith, prime.0))) (λ i l. (outcome.if_singular e).solves i l ∙ zero_word i l))
        (λ z. (outcome.if_singular e).nonzero (z ∙ constant-zero n));
  }
