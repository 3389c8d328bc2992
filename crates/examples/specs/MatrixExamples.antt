-- Conversion by matrix (document 02, S-10) for the pairs A and B of document 01, computed. Matrices are row after row.
use Rattle.std.specs.Prelude.{◌≡◌, List, [], ◌∷◌, ℕ, length, get_or}
use Rattle.bymatrix.specs.ByMatrix.{square, matrix_of, forward_output, back_output, by_matrix_number, by_matrix_output}
use Rattle.matrix.specs.Matrix.{multiple}

pub record MatrixExamples : Type 0 where
  -- A: p 3, T1 [1,0], T2 [2,1], S [1,2], R [1,2]: the columns are 1 and S, and 1 and R
  pub a_forward : matrix_of 3 2 (2 ∷ 1 ∷ []) (1 ∷ 2 ∷ []) ≡ 1 ∷ 1 ∷ 0 ∷ 2 ∷ []
  pub a_back : matrix_of 3 2 (1 ∷ 0 ∷ []) (1 ∷ 2 ∷ []) ≡ 1 ∷ 1 ∷ 0 ∷ 2 ∷ []
  -- "The matrices of source document 004 are those of multiplication, not these": that of u ↦ u·S modulo T2 has the columns S and X·S
  pub a_multiplication : square 2 (λ i j. get_or (multiple 3 (2 ∷ 1 ∷ []) (1 ∷ 2 ∷ []) j) i 0) ≡ 1 ∷ 2 ∷ 2 ∷ 2 ∷ []
  -- B: the same models, S [2,1], R [1,1]: lists of 4 words receive both matrices
  pub b_forward : (forward back : List ℕ) → length forward ≡ 4 → length back ≡ 4
      → forward_output 3 2 (1 ∷ 0 ∷ []) (2 ∷ 1 ∷ []) (2 ∷ 1 ∷ []) (1 ∷ 1 ∷ []) forward back ≡ 1 ∷ 2 ∷ 0 ∷ 1 ∷ []
  pub b_back : (forward back : List ℕ) → length forward ≡ 4 → length back ≡ 4
      → back_output 3 2 (1 ∷ 0 ∷ []) (2 ∷ 1 ∷ []) (2 ∷ 1 ∷ []) (1 ∷ 1 ∷ []) forward back ≡ 1 ∷ 1 ∷ 0 ∷ 1 ∷ []
  -- C by A's matrix: forward of [1,1] is [2,2]
  pub c_by_matrix : (out : List ℕ) → length out ≡ 2 → by_matrix_output 3 2 (1 ∷ 1 ∷ 0 ∷ 2 ∷ []) (1 ∷ 1 ∷ []) out ≡ 2 ∷ 2 ∷ []
  -- a word 3 of the matrix is refused with 4, also for an empty table, and after 9
  pub word_refused : by_matrix_number 3 2 (1 ∷ 1 ∷ 0 ∷ 3 ∷ []) [] [] ≡ 4
  pub length_first : by_matrix_number 3 2 (1 ∷ 1 ∷ 0 ∷ 3 ∷ []) (1 ∷ []) [] ≡ 9
