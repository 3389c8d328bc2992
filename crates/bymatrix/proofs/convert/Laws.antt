-- The converting call's number, test by test, the products that are written, and what the list holds after the call.
use mathlib.Core.Path.{◌≡◌, refl, sym, ap, ◌∙◌}
use mathlib.Core.Bool.{Bool, true, false, not, and-true, or-false}
use mathlib.Core.List.{List, [], ◌∷◌}
use Prim.Native.Nat.{ℕ, ◌*◌, ◌/◌, ◌^◌, ◌≤◌}
use lib.Dec.{eqb}
use lib.ListN.{length}
use Rattle.algebra.specs.Lists.{all}
use Rattle.array.proofs.Words.{words_length}
use Rattle.matrix.specs.Matrix.{Rows, matrix_product}
use Rattle.refusal.specs.Number.{number}
use Rattle.refusal.specs.Refusal.{refuse, refuse_sent_or, bad_prime, bad_degree, bad_length, bad_word}
use Rattle.refusal.specs.declared.number.Refusal.{Refusal}
use Rattle.refusal.proofs.Order.{Follows, passed, follows_next, follows_stays, follows_passes, refuse_none, degree_given}
use Rattle.refusal.proofs.Refused.{refused}
use Rattle.refusal.proofs.Written.{output_new, output_old}
use Rattle.table.specs.Table.{each_group, refuse_table, table_number}
use Rattle.table.proofs.Convertible.{table_given}
use Rattle.table.proofs.Groups.{table_groups, groups_same}
use Rattle.table.proofs.number.Laws.{lengths_follow}
use Rattle.bymatrix.specs.ByMatrix.{matrix_times, by_matrix, by_matrix_number, by_matrix_output}
use Rattle.bymatrix.specs.Clauses.{Loaded}
use Rattle.bymatrix.proofs.Given.{Ready, ready_given}
use Rattle.bymatrix.proofs.Products.{loaded_rows, loaded_times}

-- 1, 2 and 3, and what comes after them

three_follow : (p n rest : ℕ) (m : List ℕ)
    → Follows rest (refuse 1 (bad_prime p) (refuse 2 (bad_degree n) (refuse 3 (bad_length (n * n) (m ∷ [])) 0)))
    (refuse 1 (bad_prime p) (refuse 2 (bad_degree n) (refuse 3 (bad_length (n * n) (m ∷ [])) rest)))
three_follow p n rest m = follows_next 0 (bad_prime p) (follows_next 1 (bad_degree n) (follows_next 2 (bad_length (n * n) (m ∷ [])) passed))

module _ (p n : ℕ) (m table out : List ℕ) (square : Bool) (size : square ≡ eqb (length m) (n * n)) where
  by_lists : refuse_sent_or (not square) p n [] [] 0 ≡ refuse 1 (bad_prime p) (refuse 2 (bad_degree n) (refuse 3 (bad_length (n * n) (m ∷ [])) 0))
  unfolding bad_length bad_word all
  by_lists = rw (size, and-true (eqb (length m) (n * n)), or-false (not (eqb (length m) (n * n))))

  pub model_refused : (e : Refusal) → number e ≡ refuse_sent_or (not square) p n [] [] 0 → number e ≡ by_matrix_number p n m table out
  unfolding by_matrix_number
  model_refused e h = follows_stays (three_follow p n _ m) (number e) (h ∙ by_lists) (refused e)

  module _ (model : 0 ≡ refuse_sent_or (not square) p n [] [] 0) where
    pub degree_positive : 1 ≤ n
    degree_positive =
        let (prime, h2) = refuse_none 0 (bad_prime p) _ (sym (model ∙ by_lists)) in
        let (degree, h3) = refuse_none 1 (bad_degree n) _ h2 in
        (degree_given n degree).0

    after_model : by_matrix_number p n m table out ≡ refuse_table n table out (refuse 4 (bad_word p (m ∷ table ∷ [])) 0)
    unfolding by_matrix_number
    after_model = follows_passes (three_follow p n _ m) (sym (model ∙ by_lists))

    pub lengths_refused : (e : Refusal) → number e ≡ refuse_table n table out 0 → number e ≡ by_matrix_number p n m table out
    lengths_refused e h = follows_stays (lengths_follow n _ table out) (number e) h (refused e) ∙ sym after_model

    module _ (lengths : 0 ≡ refuse_table n table out 0) (b : Bool) (below : bad_word p (m ∷ table ∷ []) ≡ not b) where
      words_decide : by_matrix_number p n m table out ≡ refuse 4 (not b) 0
      words_decide = after_model ∙ follows_passes (lengths_follow n _ table out) (sym lengths) ∙ ap (λ x. refuse 4 x 0) below

      pub words_below : b ≡ true → 0 ≡ by_matrix_number p n m table out
      words_below h = rw (words_decide, h)

      pub words_above : b ≡ false → 4 ≡ by_matrix_number p n m table out
      words_above h = rw (words_decide, h)

-- the products, by an array that holds the matrix and the divisor q that is p

module _ (p n : ℕ) (m table out : List ℕ) (h : by_matrix_number p n m table out ≡ 0) where
  ready : Ready p n m table out
  ready = ready_given p n m table out h

  pub ready_prime : (2 ≤ p) × (p ≤ 2 ^ 20)
  ready_prime = ready.prime

  pub ready_low : 1 ≤ n
  ready_low = ready.degree.0

  pub ready_short : n ≤ 16
  ready_short = ready.degree.1

  pub ready_length : length m ≡ n * n
  ready_length = words_length ready.matrix

  module _ (q : ℕ) (same : q ≡ p) where
    pub ready_table : table_number q n table out ≡ 0
    ready_table = ap (λ k. table_number k n table out) same ∙ ready.numbers

    module _ (a : List ℕ) (held : Loaded n m a) where
      pub ready_rows : Rows q n a
      ready_rows = rw same (loaded_rows held ready.matrix)

      pub products_written : (after : List ℕ) → after ≡ each_group n (matrix_product q n a) (length table / n) table → after ≡ by_matrix p n m table
      unfolding by_matrix
      products_written after e =
          e ∙ ap (λ k. each_group n (matrix_product k n a) (length table / n) table) same
          ∙ groups_same (matrix_product p n a) (matrix_times p n m) (λ u w. loaded_times held w) (length table / n) table (table_groups (table_given p n table out ready.numbers))

-- the list after the call

module _ (p n : ℕ) (m table out : List ℕ) where
  pub image_new : 0 ≡ by_matrix_number p n m table out → (after : List ℕ) → after ≡ by_matrix p n m table → after ≡ by_matrix_output p n m table out
  unfolding by_matrix_output
  image_new h after f = output_new 0 (by_matrix_number p n m table out) (by_matrix p n m table) out after h refl f

  pub image_kept : (e : Refusal) → number e ≡ by_matrix_number p n m table out → out ≡ by_matrix_output p n m table out
  unfolding by_matrix_output
  image_kept e h = output_old (number e) (by_matrix_number p n m table out) (by_matrix p n m table) out h (refused e)
