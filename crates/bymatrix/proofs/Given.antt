-- What it means that no refusal applies to a conversion by matrix.
--   Ready p n m table out   p is at most 2^20 and n 1 to 16, the matrix has n·n words below p, and 9, 10 and 4 do not apply to the table
--   ready_given             that is so where the number is 0
use mathlib.Core.Path.{◌≡◌, ap, ◌∙◌}
use mathlib.Core.List.{List, [], ◌∷◌}
use Prim.Native.Nat.{ℕ, ◌*◌, ◌^◌, ◌≤◌}
use native.Mathlib.Omega.{arith}
use Rattle.array.specs.Words.{Words}
use Rattle.refusal.specs.Refusal.{refuse, bad_prime, bad_degree, bad_length, bad_word}
use Rattle.refusal.proofs.Lists.{words_of, lengths_given, below_given, given_below}
use Rattle.refusal.proofs.Order.{refuse_none, prime_bounds, degree_given}
use Rattle.table.specs.Table.{table_number}
use Rattle.table.proofs.Convertible.{lengths_passed, passed_lengths}
use Rattle.bymatrix.specs.ByMatrix.{by_matrix_number}

pub record Ready (p n : ℕ) (m table out : List ℕ) : Type 0 where
  pub prime : (2 ≤ p) × (p ≤ 2 ^ 20)
  pub degree : (1 ≤ n) × (n ≤ 16)
  pub matrix : Words p (n * n) m
  pub numbers : table_number p n table out ≡ 0

pub ready_given : (p n : ℕ) (m table out : List ℕ) → by_matrix_number p n m table out ≡ 0 → Ready p n m table out
unfolding by_matrix_number table_number
ready_given p n m table out h =
    let (prime, h2) = refuse_none 0 (bad_prime p) _ h in
    let (degree, h3) = refuse_none 1 (bad_degree n) _ h2 in
    let (size, h9) = refuse_none 2 (bad_length (n * n) (m ∷ [])) _ h3 in
    let (lengths, h4) = lengths_passed n _ table out h9 in
    let (words, end) = refuse_none 3 (bad_word p (m ∷ table ∷ [])) 0 h4 in
    let below = below_given p (m ∷ table ∷ []) words in
    let bounds = prime_bounds p prime in
    record {
      prime = (bounds.0, omega (arith, bounds.1));
      degree = degree_given n degree;
      matrix = words_of p (n * n) m (lengths_given (n * n) (m ∷ []) size).0 below.0;
      numbers = passed_lengths n _ table out lengths ∙ ap (λ b. refuse 4 b 0) (given_below p (table ∷ []) below.1);
    }
