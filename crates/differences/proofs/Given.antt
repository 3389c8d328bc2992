-- What it means that 2, 9 and 10 do not apply, and what the lists lent for the differences and for the restored table then hold.
use Rattle.std.proofs.Common.{◌≡◌, ℕ, ◌≤◌, List, length, sym, ap, ◌∙◌}
use Rattle.refusal.specs.Refusal.{refuse, bad_degree, largest_degree, written}
use Rattle.refusal.proofs.Order.{refuse_none, degree_given, given_degree}
use Rattle.table.specs.Table.{refuse_table}
use Rattle.table.proofs.Convertible.{Lengths, lengths_passed, passed_lengths}
use Rattle.differences.specs.Differences.{differences, restored, differences_number, differences_output, restore_output}

pub stored_given : (n : ℕ) (table out : List ℕ) → differences_number n table out ≡ 0 → ((1 ≤ n) × (n ≤ largest_degree)) × Lengths n table out
unfolding differences_number
stored_given n table out h =
    let (degree, h9) = refuse_none 1 (bad_degree n) _ h in
    (degree_given n degree, (lengths_passed n 0 table out h9).0)

pub stored_room : (n : ℕ) (table out : List ℕ) → 0 ≡ differences_number n table out → length out ≡ length table
stored_room n table out h = (stored_given n table out (sym h)).1.lengths

pub given_stored : (n : ℕ) (table out : List ℕ) → 1 ≤ n → n ≤ largest_degree → Lengths n table out → differences_number n table out ≡ 0
unfolding differences_number
given_stored n table out low high h = ap (λ b. refuse 2 b (refuse_table n table out 0)) (given_degree n low high) ∙ passed_lengths n 0 table out h

module _ (n : ℕ) (table out : List ℕ) (h : differences_number n table out ≡ 0) where
  pub differences_written : differences_output n table out ≡ differences n table
  unfolding differences_output
  differences_written = ap (λ k. written k (differences n table) out) h

  pub restored_written : restore_output n table out ≡ restored n table
  unfolding restore_output
  restored_written = ap (λ k. written k (restored n table) out) h
