-- What is proved of conversion by matrix (request S-10: "For every table, matrix and substitution give equal lists, and the matrices of S and R multiply to the identity both ways").
--   indicator b             1 where b holds, else 0
--   identity n              the matrix with 1 in row i and column i, else 0
--   column n m j            the n words of column j
--   multiply p n a b        a·b modulo p: in row i and column j the sum of the products of row i of a with column j of b
--   MatrixColumns           the matrix of u ↦ u(S) modulo T has n·n words, and column j of it is S^j
--   SameAsSubstitution p n t s table out   by the matrix of u ↦ u(S) modulo T the call gives the number and the list that substitution gives
--   MatrixIsSubstitution    that is so for every accepted pair and all lists, forward and back
--   EveryMatrix             by any matrix the k-th group of the image is the matrix times the table's k-th group
--   MatricesAreInverse      the two matrices of an accepted pair multiply to the identity both ways
use Rattle.std.specs.Prelude.{◌≡◌, Bool, true, false, List, map, ℕ, ◌*◌, ◌%◌, ◌<◌, eqb, length, get_or}
use Rattle.algebra.specs.Lists.{range}
use Rattle.matrix.specs.Matrix.{dot}
use Rattle.pair.specs.Pair.{check_number}
use Rattle.quotient.specs.Residue.{power}
use Rattle.refusal.specs.Refusal.{written}
use Rattle.table.specs.Table.{converted, table_number, Images}
use Rattle.bymatrix.specs.ByMatrix.{word, square, matrix_of, matrix_times, by_matrix_number, by_matrix_output}

abbrev pub indicator : Bool → ℕ
indicator true = 1
indicator false = 0

unfoldable pub identity : ℕ → List ℕ
identity n = square n (λ i j. indicator (eqb i j))

unfoldable pub column : ℕ → List ℕ → ℕ → List ℕ
column n m j = map (λ i. word n m i j) (range 0 n)

unfoldable pub multiply : ℕ → ℕ → List ℕ → List ℕ → List ℕ
multiply p n a b = square n (λ i j. dot (word n a i) (column n b j) % p)

abbrev pub MatrixColumns : Type 0
MatrixColumns =
    (p n : ℕ) (t s : List ℕ)
    → (length (matrix_of p n t s) ≡ n * n) × ((i j : ℕ) → i < n → j < n → word n (matrix_of p n t s) i j ≡ get_or (power p t s j) i 0)

pub record SameAsSubstitution (p n : ℕ) (t s table out : List ℕ) : Type 0 where
  pub number : by_matrix_number p n (matrix_of p n t s) table out ≡ table_number p n table out
  pub output : by_matrix_output p n (matrix_of p n t s) table out ≡ written (table_number p n table out) (converted p n t s table) out

abbrev pub MatrixIsSubstitution : Type 0
MatrixIsSubstitution =
    (p n : ℕ) (t1 t2 s r table out : List ℕ) → check_number p n t1 t2 s r ≡ 0
    → SameAsSubstitution p n t2 s table out × SameAsSubstitution p n t1 r table out

abbrev pub EveryMatrix : Type 0
EveryMatrix = (p n : ℕ) (m table out : List ℕ) → by_matrix_number p n m table out ≡ 0 → Images n (matrix_times p n m) table (by_matrix_output p n m table out)

abbrev pub MatricesAreInverse : Type 0
MatricesAreInverse =
    (p n : ℕ) (t1 t2 s r : List ℕ) → check_number p n t1 t2 s r ≡ 0
    → (multiply p n (matrix_of p n t2 s) (matrix_of p n t1 r) ≡ identity n) × (multiply p n (matrix_of p n t1 r) (matrix_of p n t2 s) ≡ identity n)
