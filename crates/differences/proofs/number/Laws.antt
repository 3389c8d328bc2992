-- What the two tests of `check_differences` say of the number.
use Rattle.std.proofs.Common.{◌≡◌, ℕ, ◌≤◌, true, false, not, List, sym, ap}
use Rattle.refusal.specs.Refusal.{is_degree, bad_degree}
use Rattle.refusal.proofs.Order.{degree_given}
use Rattle.table.specs.Table.{refuse_table}
use Rattle.differences.specs.Differences.{differences_number}

module _ (n : ℕ) (table out : List ℕ) where
  pub no_degree : false ≡ is_degree n → 2 ≡ differences_number n table out
  unfolding differences_number bad_degree
  no_degree h = rw (← h)

  module _ (h : true ≡ is_degree n) where
    pub degree_positive : 1 ≤ n
    unfolding bad_degree
    degree_positive = (degree_given n (ap not (sym h))).0

    pub lengths_decide : (number : ℕ) → number ≡ refuse_table n table out 0 → number ≡ differences_number n table out
    unfolding differences_number bad_degree
    lengths_decide number e = rw (← h) e
