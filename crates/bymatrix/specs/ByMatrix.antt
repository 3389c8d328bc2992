-- Conversion by matrix (request S-10: "Build the n by n matrix of the forward map one time, its columns being the powers of S modulo T2, and likewise for back").
-- A matrix of n rows and n columns is a list of n·n words, row after row.
--   word n m i j             the word in row i and column j: word i·n + j of the list
--   square n f               the matrix of the words f i j: word k of the list stands in row k / n and column k % n
--   matrix_of p n t s        the matrix of u ↦ u(S) modulo T: in row i and column j it has coefficient i of S^j
--   matrices_number p n t1 t2 s r forward back   the building call's answer ("takes the checker's input and gives its numbers, with 3 when either of its two
--                            output lists, row after row, is not of n·n words"): 1, 2, 3, 4, 6, 7, 8 or 0
--   forward_output p n t1 t2 s r forward back   what the list lent for the forward map's matrix holds after the call
--   back_output p n t1 t2 s r forward back      what the list lent for the backward map's matrix holds after it
--   matrix_times p n m u     the matrix times u, modulo p: word i is the sum of the products of row i's words with those of u
--   by_matrix p n m table    the matrix times each group of n words, one after the other
--   by_matrix_number p n m table out   the converting call's answer ("with 1, 2, 3, 9, 10, 4 in that order")
--   by_matrix_output p n m table out   what the list lent for the image holds after the call
use Rattle.std.specs.Prelude.{List, [], ◌∷◌, map, ℕ, ◌+◌, ◌*◌, ◌/◌, ◌%◌, length, get_or}
use Rattle.algebra.specs.Lists.{range}
use Rattle.matrix.specs.Matrix.{dot}
use Rattle.pair.specs.Pair.{check_number_or}
use Rattle.quotient.specs.Residue.{power}
use Rattle.refusal.specs.Refusal.{refuse, bad_prime, bad_degree, bad_length, bad_word, written}
use Rattle.table.specs.Table.{each_group, refuse_table}

unfoldable pub word : ℕ → List ℕ → ℕ → ℕ → ℕ
word n m i j = get_or m (i * n + j) 0

unfoldable pub square : ℕ → (ℕ → ℕ → ℕ) → List ℕ
square n f = map (λ k. f (k / n) (k % n)) (range 0 (n * n))

unfoldable pub matrix_of : ℕ → ℕ → List ℕ → List ℕ → List ℕ
matrix_of p n t s = square n (λ i j. get_or (power p t s j) i 0)

unfoldable pub matrices_number : ℕ → ℕ → List ℕ → List ℕ → List ℕ → List ℕ → List ℕ → List ℕ → ℕ
matrices_number p n t1 t2 s r forward back = check_number_or (bad_length (n * n) (forward ∷ back ∷ [])) p n t1 t2 s r

unfoldable pub forward_output : ℕ → ℕ → List ℕ → List ℕ → List ℕ → List ℕ → List ℕ → List ℕ → List ℕ
forward_output p n t1 t2 s r forward back = written (matrices_number p n t1 t2 s r forward back) (matrix_of p n t2 s) forward

unfoldable pub back_output : ℕ → ℕ → List ℕ → List ℕ → List ℕ → List ℕ → List ℕ → List ℕ → List ℕ
back_output p n t1 t2 s r forward back = written (matrices_number p n t1 t2 s r forward back) (matrix_of p n t1 r) back

unfoldable pub matrix_times : ℕ → ℕ → List ℕ → List ℕ → List ℕ
matrix_times p n m u = map (λ i. dot (word n m i) u % p) (range 0 n)

unfoldable pub by_matrix : ℕ → ℕ → List ℕ → List ℕ → List ℕ
by_matrix p n m table = each_group n (matrix_times p n m) (length table / n) table

unfoldable pub by_matrix_number : ℕ → ℕ → List ℕ → List ℕ → List ℕ → ℕ
by_matrix_number p n m table out =
    refuse 1 (bad_prime p) (refuse 2 (bad_degree n) (refuse 3 (bad_length (n * n) (m ∷ [])) (refuse_table n table out (refuse 4 (bad_word p (m ∷ table ∷ [])) 0))))

unfoldable pub by_matrix_output : ℕ → ℕ → List ℕ → List ℕ → List ℕ → List ℕ
by_matrix_output p n m table out = written (by_matrix_number p n m table out) (by_matrix p n m table) out
