-- The matrices of two substitutions of which one undoes the other multiply to the identity. Column j of the second is its image of X^j, which has 1 in place j and
-- else 0; the first takes that image back to X^j.
--   delta i j     1 where i = j, else 0
--   unit n j      the n words of X^j
use mathlib.Core.Path.{◌≡◌, refl, sym, ap, ap₂, ◌∙◌}
use mathlib.Core.List.{List, map}
use Prim.Native.Nat.{ℕ, zero, suc, ◌+◌, ◌*◌, ◌%◌, ◌≤◌, ◌<◌}
use native.Mathlib.Nat as Nat
use native.Mathlib.Decide.{ℕ_discrete}
use native.Mathlib.Omega.{arith}
use borrow.Author.Tests.{eq-eqb, ne_eqb}
use lib.Dec.{eqb}
use lib.ListN.{get_or}
use Rattle.algebra.specs.Lists.{range}
use Rattle.array.specs.Words.{Words}
use Rattle.array.proofs.Padded.{words_at}
use Rattle.array.proofs.Words.{words_same}
use Rattle.matrix.specs.Matrix.{dot}
use Rattle.matrix.proofs.PowerMatrix.{dot_substitutes}
use Rattle.array.proofs.Ranges.{range_word, range_words, words_range}
use Rattle.quotient.specs.Map.{Undoes}
use Rattle.quotient.specs.Residue.{power, substitute}
use Rattle.quotient.proofs.Operations.{power_words, substitute_words}
use Rattle.bymatrix.specs.ByMatrix.{word, matrix_of}
use Rattle.bymatrix.specs.Theorem.{indicator, identity, column, multiply}
use Rattle.bymatrix.proofs.Places.{square_same}
use Rattle.bymatrix.proofs.Products.{matrix_word, row_times}

unfoldable delta : ℕ → ℕ → ℕ
delta i j = indicator (eqb i j)

delta_same : (i j : ℕ) → i ≡ j → delta i j ≡ 1
unfolding delta
delta_same i j e = rw (eq-eqb i j e)

delta_other : (i j : ℕ) → (i ≡ j → ⊥) → delta i j ≡ 0
unfolding delta
delta_other i j h = rw (ne_eqb i j h)

delta_below : {p : ℕ} → 2 ≤ p → (i j : ℕ) → delta i j < p
delta_below {p} big i j = by_place (ℕ_discrete i j)
  where
    by_place : Dec (i ≡ j) → delta i j < p
    by_place (yes e) = rw (delta_same i j e) (omega arith)
    by_place (no h) = rw (delta_other i j h) (omega arith)

-- the product of a row with X^j is the row's word j

unfoldable unit : ℕ → ℕ → List ℕ
unit n j = map (λ i. delta i j) (range 0 n)

dot_none : (f : ℕ → ℕ) (a k j : ℕ) → j < a → dot f (map (λ i. delta i j) (range a k)) ≡ 0
unfolding dot range
dot_none f a zero j l = refl
dot_none f a (suc k) j l =
    ap₂ (λ x y. f 0 * x + y) (delta_other a j (omega arith)) (dot_none (λ i. f (suc i)) (suc a) k j (omega arith)) ∙ omega arith

dot_one : (f : ℕ → ℕ) (a k j : ℕ) → j < k → dot f (map (λ i. delta i (a + j)) (range a k)) ≡ f j
unfolding dot range
dot_one f a zero j l = absurd (omega arith)
dot_one f a (suc k) zero l =
    ap₂ (λ x y. f 0 * x + y) (delta_same a (a + 0) (omega arith)) (dot_none (λ i. f (suc i)) (suc a) k (a + 0) (omega arith)) ∙ omega arith
dot_one f a (suc k) (suc j) l =
    ap₂ (λ x y. f 0 * x + y) (delta_other a (a + suc j) (omega arith))
    (ap (λ b. dot (λ i. f (suc i)) (map (λ i. delta i b) (range (suc a) k))) (Nat.add-suc a j ∙ sym (Nat.suc-add a j)) ∙ dot_one (λ i. f (suc i)) (suc a) k j (omega arith))
    ∙ omega arith

-- X^j

unit_words : {p : ℕ} (n j : ℕ) → 2 ≤ p → Words p n (unit n j)
unfolding unit
unit_words n j big = range_words (λ i. delta i j) 0 n (λ i l. delta_below big i j)

unit_word : (n j i : ℕ) → i < n → get_or (unit n j) i 0 ≡ delta i j
unfolding unit
unit_word n j i l = range_word (λ i. delta i j) 0 n i l ∙ ap (λ k. delta k j) (Nat.zero-add i)

dot-unit : (f : ℕ → ℕ) (n j : ℕ) → j < n → dot f (unit n j) ≡ f j
unfolding unit
dot-unit f n j l = ap (λ b. dot f (map (λ i. delta i b) (range 0 n))) (sym (Nat.zero-add j)) ∙ dot_one f 0 n j l

module _ {p n : ℕ} {t s : List ℕ} (big : 2 ≤ p) (wt : Words p n t) (ws : Words p n s) where
  -- X^j goes to S^j
  unit_image : (j : ℕ) → j < n → substitute p t s (unit n j) ≡ power p t s j
  unit_image j lj =
      words_same (substitute_words big wt ws (unit_words n j big)) (power_words big wt ws j)
      (λ i li. sym (dot_substitutes big wt ws i li (unit_words n j big) (λ k. get_or (power p t s k) i 0) (λ k l. refl))
      ∙ ap (λ x. x % p) (dot-unit (λ k. get_or (power p t s k) i 0) n j lj) ∙ Nat.mod-eq_of_lt (words_at (power_words big wt ws j) i li))

  pub column-power : (j : ℕ) → j < n → column n (matrix_of p n t s) j ≡ power p t s j
  unfolding column
  column-power j lj = words_range (λ i. word n (matrix_of p n t s) i j) (power_words big wt ws j) (λ i li. matrix_word p n t s i j li lj)

module _ {p n : ℕ} {t s t' s' : List ℕ} (big : 2 ≤ p) (wt : Words p n t) (ws : Words p n s) (wt' : Words p n t') (ws' : Words p n s')
    (undoes : Undoes p n (substitute p t s) (substitute p t' s')) where
  product_word_lem : (i j : ℕ) → i < n → j < n → dot (word n (matrix_of p n t s) i) (column n (matrix_of p n t' s') j) % p ≡ delta i j
  product_word_lem i j li lj =
      ap (λ u. dot (word n (matrix_of p n t s) i) u % p) (column-power big wt' ws' j lj)
      ∙ row_times big wt ws (power_words big wt' ws' j) i li
      ∙ ap (λ u. get_or u i 0) (ap (substitute p t s) (sym (unit_image big wt' ws' j lj)) ∙ undoes (unit n j) (unit_words n j big))
      ∙ unit_word n j i li

  pub multiply-identity : multiply p n (matrix_of p n t s) (matrix_of p n t' s') ≡ identity n
  unfolding multiply identity delta
  multiply-identity = square_same n (λ i j. dot (word n (matrix_of p n t s) i) (column n (matrix_of p n t' s') j) % p) delta product_word_lem
