-- The proofs of what specs/Theorem.antt states.
use mathlib.Core.Path.{◌≡◌, ap, ◌∙◌}
use mathlib.Core.List.{List, [], ◌∷◌}
use Prim.Native.Nat.{ℕ, ◌*◌, ◌/◌, ◌≤◌}
use native.Mathlib.Decide.{ℕ_discrete}
use native.Mathlib.Omega.{arith}
use borrow.Author.Tests.{eq-eqb, ne_eqb}
use lib.ListN.{length}
use Rattle.algebra.specs.Lists.{all}
use Rattle.algebra.specs.Prime.{Prime}
use Rattle.array.specs.Words.{Words}
use Rattle.modular.specs.Prime.{largest_prime}
use Rattle.pair.specs.Pair.{forward, backward}
use Rattle.pair.proofs.Theorem.{checker_theorem}
use Rattle.quotient.specs.Residue.{substitute}
use Rattle.refusal.specs.Refusal.{bad_word, written}
use Rattle.refusal.proofs.Lists.{given_lengths, words_below}
use Rattle.refusal.proofs.Order.{given_prime, given_degree}
use Rattle.table.specs.Table.{converted, table_number}
use Rattle.table.proofs.Convertible.{table_given}
use Rattle.table.proofs.Groups.{table_groups, groups_same, images}
use Rattle.bymatrix.specs.ByMatrix.{matrix_of, matrix_times, by_matrix, by_matrix_number, by_matrix_output}
use Rattle.bymatrix.specs.Theorem.{MatrixColumns, SameAsSubstitution, MatrixIsSubstitution, EveryMatrix, MatricesAreInverse}
use Rattle.bymatrix.proofs.Given.{ready_given}
use Rattle.bymatrix.proofs.Inverse.{multiply-identity}
use Rattle.bymatrix.proofs.Products.{times_words, matrix_word, matrix_length, matrix_words, times_substitutes}

pub matrix_columns : MatrixColumns
matrix_columns p n t s = (matrix_length p n t s, matrix_word p n t s)

-- the list is the same where the new lists are the same
written_same : (k : ℕ) (new new' old : List ℕ) → (k ≡ 0 → new ≡ new') → written k new old ≡ written k new' old
written_same k new new' old h = go (ℕ_discrete k 0)
  where
    go : Dec (k ≡ 0) → written k new old ≡ written k new' old
    go (yes e) = rw (eq-eqb k 0 e) (h e)
    go (no l) = rw (ne_eqb k 0 l)

module _ {p n : ℕ} {t s : List ℕ} (prime : Prime p) (small : p ≤ largest_prime) (degree : (1 ≤ n) × (n ≤ 16)) (wt : Words p n t) (ws : Words p n s) (table out : List ℕ) where
  -- the matrix is never refused
  same_number : by_matrix_number p n (matrix_of p n t s) table out ≡ table_number p n table out
  unfolding by_matrix_number table_number bad_word all
  same_number =
      rw (
        given_prime p prime small,
        given_degree n degree.0 degree.1,
        given_lengths (n * n) (matrix_of p n t s ∷ []) (matrix_length p n t s, tt),
        words_below (matrix_words prime.0 wt ws),
      )

  same_image : table_number p n table out ≡ 0 → by_matrix p n (matrix_of p n t s) table ≡ converted p n t s table
  unfolding by_matrix converted
  same_image h =
      groups_same (matrix_times p n (matrix_of p n t s)) (substitute p t s) (λ u w. times_substitutes prime.0 wt ws w) (length table / n) table
      (table_groups (table_given p n table out h))

  same_as_substitution : SameAsSubstitution p n t s table out
  same_as_substitution = record { number = same_number; output = same_output }
    where
      same_output : by_matrix_output p n (matrix_of p n t s) table out ≡ written (table_number p n table out) (converted p n t s table) out
      same_output = unfold by_matrix_output in
          (ap (λ k. written k (by_matrix p n (matrix_of p n t s) table) out) same_number
          ∙ written_same (table_number p n table out) (by_matrix p n (matrix_of p n t s) table) (converted p n t s table) out same_image)

pub matrix_is_substitution : MatrixIsSubstitution
matrix_is_substitution p n t1 t2 s r table out accepted =
    let (g, fields, c, iso) = (checker_theorem p n t1 t2 s r).0 accepted in
    let m = g.models in (
      same_as_substitution m.prime m.small m.degree m.modulus2 g.words_s table out,
      same_as_substitution m.prime m.small m.degree m.modulus1 g.words_r table out,
    )

pub every_matrix : EveryMatrix
unfolding by_matrix_output by_matrix
every_matrix p n m table out h =
    let ready = ready_given p n m table out h in
    rw h (images (table_given p n table out ready.numbers) (matrix_times p n m) (λ u w. times_words n m u (omega (arith, ready.prime.0))))

pub matrices_are_inverse : MatricesAreInverse
unfolding forward backward
matrices_are_inverse p n t1 t2 s r accepted =
    let (g, fields, c, iso) = (checker_theorem p n t1 t2 s r).0 accepted in
    let m = g.models in (
      multiply-identity m.prime.0 m.modulus2 g.words_s m.modulus1 g.words_r iso.forth_undoes_back,
      multiply-identity m.prime.0 m.modulus1 g.words_r m.modulus2 g.words_s iso.back_undoes_forth,
    )
