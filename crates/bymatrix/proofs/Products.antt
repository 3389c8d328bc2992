-- The matrix of u ↦ u(S) times u is u(S); and an array that holds a matrix has its products.
use mathlib.Core.Path.{◌≡◌, sym, ap, ◌∙◌}
use mathlib.Core.List.{List}
use Prim.Native.Nat.{ℕ, ◌+◌, ◌*◌, ◌%◌, ◌≤◌, ◌<◌}
use native.Mathlib.Nat as Nat
use native.Mathlib.Omega.{arith}
use lib.ListN.{length, get_or}
use Rattle.array.specs.Array.{entry, row_product}
use Rattle.array.specs.Words.{Words}
use Rattle.array.proofs.Padded.{words_at}
use Rattle.array.proofs.Words.{words_length}
use Rattle.matrix.specs.Matrix.{Powers, Rows, matrix_product, dot}
use Rattle.matrix.proofs.PowerMatrix.{row_dot, dot_substitutes}
use Rattle.array.proofs.Ranges.{range_same, range_words, words_range}
use Rattle.quotient.specs.Residue.{power, substitute}
use Rattle.quotient.proofs.Operations.{power_words, substitute_words}
use Rattle.bymatrix.specs.ByMatrix.{word, square, matrix_of, matrix_times}
use Rattle.bymatrix.specs.Clauses.{Loaded}
use Rattle.bymatrix.proofs.Places.{place_below, word-square, square-length, square_same, square_words}

pub times_words : {p : ℕ} (n : ℕ) (m u : List ℕ) → 0 < p → Words p n (matrix_times p n m u)
unfolding matrix_times
times_words {p} n m u h = range_words (λ i. dot (word n m i) u % p) 0 n (λ i l. Nat.mod-lt _ h)

-- the matrix of u ↦ u(S)

pub matrix_word : (p n : ℕ) (t s : List ℕ) (i j : ℕ) → i < n → j < n → word n (matrix_of p n t s) i j ≡ get_or (power p t s j) i 0
unfolding matrix_of
matrix_word p n t s i j li lj = word-square n (λ i j. get_or (power p t s j) i 0) i j li lj

pub matrix_length : (p n : ℕ) (t s : List ℕ) → length (matrix_of p n t s) ≡ n * n
unfolding matrix_of
matrix_length p n t s = square-length n (λ i j. get_or (power p t s j) i 0)

module _ {p n : ℕ} {t s : List ℕ} (big : 2 ≤ p) (wt : Words p n t) (ws : Words p n s) where
  pub matrix_words : Words p (n * n) (matrix_of p n t s)
  unfolding matrix_of
  matrix_words = square_words n (λ i j. get_or (power p t s j) i 0) (λ i j li lj. words_at (power_words big wt ws j) i li)

  -- word i of the product
  pub row_times : {u : List ℕ} → Words p n u → (i : ℕ) → i < n → dot (word n (matrix_of p n t s) i) u % p ≡ get_or (substitute p t s u) i 0
  row_times wu i l = dot_substitutes big wt ws i l wu (word n (matrix_of p n t s) i) (λ j m. matrix_word p n t s i j l m)

  pub times_substitutes : {u : List ℕ} → Words p n u → matrix_times p n (matrix_of p n t s) u ≡ substitute p t s u
  unfolding matrix_times
  times_substitutes {u} wu = words_range (λ i. dot (word n (matrix_of p n t s) i) u % p) (substitute_words big wt ws wu) (row_times wu)

-- an array with the powers of S as columns
pub powers_matrix : {p n : ℕ} {t s m : List ℕ} → Words p n t → Powers p n t s m → (out : List ℕ) → out ≡ square n (entry m) → out ≡ matrix_of p n t s
unfolding matrix_of
powers_matrix {p} {n} {t} {s} {m} wt h out e =
    e ∙ square_same n (entry m) (λ i j. get_or (power p t s j) i 0) (λ i j li lj. h.words i j (rw (words_length wt) li) lj)

-- an array that holds a matrix

module _ {p n : ℕ} {matrix m : List ℕ} (h : Loaded n matrix m) where
  pub loaded_rows : Words p (n * n) matrix → Rows p n m
  unfolding word
  loaded_rows w =
      record {
        square = record { size = h.size; below = λ i j li lj. rw (h.words i j li lj) (words_at w (i * n + j) (place_below n i j li lj)) };
        zeros = λ i j li low high. h.zeros i j low high;
      }

  pub loaded_times : {u : List ℕ} → Words p n u → matrix_product p n m u ≡ matrix_times p n matrix u
  unfolding matrix_product matrix_times
  loaded_times {u} wu =
      range_same (λ i. row_product m i 0 u % p) (λ i. dot (word n matrix i) u % p) 0 n
      (λ i l. ap (λ x. x % p) (row_dot m i 0 u (word n matrix i)
      (λ j b. sym (h.words i j (omega arith) (omega (arith, words_length wu))) ∙ ap (entry m i) (sym (Nat.zero-add j)))))
