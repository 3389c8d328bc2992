-- A matrix row after row: word i·n + j of the list is the word in row i and column j.
use mathlib.Core.Path.{◌≡◌, ap, ap₂, ◌∙◌}
use Prim.Native.Nat.{ℕ, zero, suc, ◌+◌, ◌*◌, ◌/◌, ◌%◌, ◌≤◌, ◌<◌}
use native.Mathlib.Nat as Nat
use native.Mathlib.Omega.{arith}
use lib.ListN.{length, length-map}
use Rattle.algebra.specs.Lists.{range}
use Rattle.algebra.proofs.Search.{range_length}
use Rattle.array.specs.Words.{Words}
use Rattle.array.proofs.Ranges.{range_word, range_same, range_words}
use Rattle.bymatrix.specs.ByMatrix.{word, square}

-- the row and the column of a place
module _ (n i j k : ℕ) (e : k ≡ i * n + j) (l : j < n) where
  pub row_of : k / n ≡ i
  row_of = ap (λ x. x / n) e ∙ Nat.mul-add-div_right (omega arith) i j ∙ ap (λ x. i + x) (Nat.div-eq_of_lt l) ∙ Nat.add-zero i

  pub column_of : k % n ≡ j
  column_of = ap (λ x. x % n) e ∙ Nat.mul-add-mod_self_right i n j ∙ Nat.mod-eq_of_lt l

pub place_below : (n i j : ℕ) → i < n → j < n → i * n + j < n * n
place_below n i j li lj =
    let rows : (i + 1) * n ≤ n * n = Nat.mul-le-mul_right n (omega arith) in
    omega arith

positive : (n k : ℕ) → k < n * n → 0 < n
positive zero k l = absurd (omega arith)
positive (suc n) k l = omega arith

pub row_below : (n k : ℕ) → k < n * n → k / n < n
row_below n k l = (Nat.div-lt_iff_lt-mul (positive n k l)).1 l

pub column_below : (n k : ℕ) → k < n * n → k % n < n
column_below n k l = Nat.mod-lt k (positive n k l)

-- the words of a matrix that is given by its words

pub word-square : (n : ℕ) (f : ℕ → ℕ → ℕ) (i j : ℕ) → i < n → j < n → word n (square n f) i j ≡ f i j
unfolding word square
word-square n f i j li lj =
    range_word (λ k. f (k / n) (k % n)) 0 (n * n) (i * n + j) (place_below n i j li lj)
    ∙ ap₂ f (row_of n i j (0 + (i * n + j)) (Nat.zero-add _) lj) (column_of n i j (0 + (i * n + j)) (Nat.zero-add _) lj)

pub square-length : (n : ℕ) (f : ℕ → ℕ → ℕ) → length (square n f) ≡ n * n
unfolding square
square-length n f = length-map (range 0 (n * n)) (λ k. f (k / n) (k % n)) ∙ range_length 0 (n * n)

pub square_same : (n : ℕ) (f g : ℕ → ℕ → ℕ) → ((i j : ℕ) → i < n → j < n → f i j ≡ g i j) → square n f ≡ square n g
unfolding square
square_same n f g h =
    range_same (λ k. f (k / n) (k % n)) (λ k. g (k / n) (k % n)) 0 (n * n) (λ k l. h (k / n) (k % n) (row_below n k (omega arith)) (column_below n k (omega arith)))

pub square_words : {p : ℕ} (n : ℕ) (f : ℕ → ℕ → ℕ) → ((i j : ℕ) → i < n → j < n → f i j < p) → Words p (n * n) (square n f)
unfolding square
square_words n f h = range_words (λ k. f (k / n) (k % n)) 0 (n * n) (λ k l. h (k / n) (k % n) (row_below n k (omega arith)) (column_below n k (omega arith)))
