-- The system f(S) = b modulo T, whose matrix has the powers of S as columns: its row products are the words of f(S). So the one solution of
-- a regular system is the f with f(S) = b, and a singular one would have some f ≠ 0 with f(S) = 0, against the independence of the powers.
use mathlib.Core.Path.{◌≡◌, refl, sym, ap, ◌∙◌}
use mathlib.Core.Bool.{Bool, true, false}
use mathlib.Core.List.{List}
use Prim.Native.Nat.{ℕ, ◌%◌, ◌≤◌, ◌<◌}
use native.Mathlib.Nat.{mod-eq_of_lt, zero-mod}
use native.Mathlib.Omega.{arith}
use lib.ListN.{get_or, take, get_or-replicate}
use lib.Seq.{get_or-take}
use Rattle.algebra.specs.Lists.{equal}
use Rattle.algebra.specs.Prime.{Prime}
use Rattle.algebra.proofs.Equality.{of_equal}
use Rattle.array.specs.Array.{row_product, padded, Holds}
use Rattle.linear.specs.System.{Singular, Outcome}
use Rattle.array.specs.Words.{Words}
use Rattle.quotient.specs.Residue.{constant, residue_of_x, substitute}
use Rattle.quotient.proofs.Substitution.{zero-substitute}
use Rattle.quotient.proofs.Operations.{constant_words, constant-zero, substitute_words, residue_of_x_words}
use Rattle.array.proofs.Words.{words_same}
use Rattle.array.proofs.Padded.{words_at, front_is, holds_is}
use Rattle.matrix.specs.Matrix.{Powers, matrix_product}
use Rattle.matrix.proofs.PowerMatrix.{row_substitutes, product_substitutes}
use Rattle.galois.specs.Express.{Independent}
use Rattle.galois.proofs.Express.{express_unique}
use Rattle.frobenius.specs.Image.{Expression, Image}

module _ {p n : ℕ} {t s m : List ℕ} (big : 2 ≤ p) (wt : Words p n t) (ws : Words p n s) (powers : Powers p n t s m) where
  -- the value of f(S) at a solution
  solution_value : {f : List ℕ} → Words p n f → (b : List ℕ) → Words p n b → ((i : ℕ) → i < n → row_product m i 0 f % p ≡ get_or b i 0) → substitute p t s f ≡ b
  solution_value wf b wb h = words_same (substitute_words big wt ws wf) wb (λ i l. sym (row_substitutes big wt ws powers wf i l) ∙ h i l)

  module _ (independent : Independent p n t s) where
    -- no f ≠ 0 has f(S) = 0
    not_singular : {f : List ℕ} → Words p n f → Singular p n m f → ⊥
    not_singular {f} wf h =
        h.nonzero (independent f (constant n 0) wf (constant_words n (omega arith)) (zero_value ∙ sym (zero-substitute big wt ws n)) ∙ constant-zero n)
      where
        zero_word : (i : ℕ) → i < n → get_or (constant n 0) i 0 ≡ 0
        zero_word i l = ap (λ u. get_or u i 0) (constant-zero n) ∙ get_or-replicate n i 0 0 l

        zero_value : substitute p t s f ≡ constant n 0
        zero_value = solution_value wf (constant n 0) (constant_words n (omega arith)) (λ i l. h.solves i l ∙ zero-mod p ∙ sym (zero_word i l))

    solved_is : (b : List ℕ) (r : Bool) (v : List ℕ) → Holds p n b → Outcome p n m b r v → substitute p t s (take n v) ≡ take n b
    solved_is b r v hb outcome = by_answer r refl
      where
        word : (i : ℕ) → i < n → get_or b i 0 % p ≡ get_or (take n b) i 0
        word i l = ap (λ x. x % p) (sym (get_or-take n b i 0 l)) ∙ mod-eq_of_lt (words_at hb.words i l)

        by_answer : (a : Bool) → r ≡ a → substitute p t s (take n v) ≡ take n b
        by_answer true e = solution_value outcome.holds.words (take n b) hb.words (λ i l. (outcome.if_regular e).solves i l ∙ word i l)
        by_answer false e = absurd (not_singular outcome.holds.words (outcome.if_singular e))

-- the right side is X

module _ (p n : ℕ) (t : List ℕ) (prime : Prime p) (ht : Holds p n t) where
  abbrev T : List ℕ
  T = take n t

  x_words : Words p n (residue_of_x p T)
  x_words = residue_of_x_words prime.0 ht.words

  pub right_side : (x : List ℕ) → x ≡ padded (residue_of_x p T) → Holds p n x
  right_side x e = holds_is e x_words

  pub solved : (m x : List ℕ) → x ≡ padded (residue_of_x p T) → (r : Bool) (v : List ℕ) → Outcome p n m x r v → Expression p n T m v
  solved m x e r v outcome =
      record {
        holds = outcome.holds;
        expression_is = λ a1 w1 powers independent.
            sym (express_unique prime.0 ht.words w1 independent (take n v) outcome.holds.words
            (solved_is prime.0 ht.words w1 powers independent x r v (right_side x e) outcome ∙ front_is e x_words));
      }

  -- a guess whose value is X
  pub guessed : (m g v : List ℕ) → Holds p n g → v ≡ padded (matrix_product p n m (take n g)) → (r : Bool) → r ≡ equal (take n v) (residue_of_x p T) → r ≡ true → Expression p n T m g
  guessed m g v hg ev r er e =
      record {
        holds = hg;
        expression_is = λ a1 w1 powers independent.
            let value : matrix_product p n m (take n g) ≡ substitute p T a1 (take n g) = product_substitutes prime.0 ht.words w1 powers hg.words in
            sym (express_unique prime.0 ht.words w1 independent (take n g) hg.words
            (sym (front_is (ev ∙ ap padded value) (substitute_words prime.0 ht.words w1 hg.words)) ∙ of_equal (take n v) (residue_of_x p T) (sym er ∙ e)));
      }

  -- its value at another residue
  pub image_is : (m1 m2 f w : List ℕ) → Expression p n T m1 f → w ≡ padded (matrix_product p n m2 (take n f)) → Image p n T m1 m2 w
  image_is m1 m2 f w h ew =
      record {
        image_is = λ a1 t2 a2 w1 powers1 independent w2 wa2 powers2.
            ew ∙ ap padded (product_substitutes prime.0 w2 wa2 powers2 h.holds.words ∙ ap (substitute p t2 a2) (h.expression_is a1 w1 powers1 independent));
      }
