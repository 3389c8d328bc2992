-- The loop that subtracts, and what the list lent for the differences holds after the call.
use Rattle.std.proofs.Common.{◌≡◌, ℕ, ◌+◌, ◌-◌, ◌%◌, ◌<◌, ◌≤◌, List, length, get_or, set, sym, ◌∙◌}
use Rattle.array.specs.Words.{word_bound}
use Rattle.refusal.specs.Number.{number}
use Rattle.refusal.specs.declared.number.Refusal.{Refusal}
use Rattle.refusal.proofs.Refused.{refused}
use Rattle.refusal.proofs.Written.{output_old}
use Rattle.differences.specs.Clauses.{Begun}
use Rattle.differences.specs.Differences.{differences, differences_number, differences_output}
use Rattle.differences.proofs.Begun.{begun_turn, begun_done, begun_other}
use Rattle.differences.proofs.Cancel.{minus_unique}
use Rattle.differences.proofs.Given.{differences_written}
use Rattle.differences.proofs.Words.{differences-length, differences_first, differences_later}

module _ (n : ℕ) (table : List ℕ) where
  pub differences_begin : (out : List ℕ) → Begun n table out → Begun n (differences n table) out
  differences_begin out = begun_other n table (differences n table) out (differences-length n table) (λ i l h. differences_first n table i l)

  -- word k, by the word that stands n places before it
  module _ (k r : ℕ) (out : List ℕ) (begun : Begun k (differences n table) out) (low : n ≤ k) (inside : k < length table) where
    pub subtract_turn : r < word_bound → get_or table (k - n) 0 < word_bound → (r + get_or table (k - n) 0) % word_bound ≡ get_or table k 0
        → Begun (k + 1) (differences n table) (set out k r)
    subtract_turn small_r small_b e =
        begun_turn k r (differences n table) out begun (rw (differences-length n table) inside)
        (minus_unique r (get_or table k 0) (get_or table (k - n) 0) small_r small_b e ∙ sym (differences_later n table k low inside))

  pub subtract_done : (k : ℕ) (out : List ℕ) → Begun k (differences n table) out → length table ≤ k → out ≡ differences n table
  subtract_done k out begun end = begun_done k (differences n table) out begun (rw (differences-length n table) end)

module _ (n : ℕ) (table out : List ℕ) where
  pub image_new : 0 ≡ differences_number n table out → (after : List ℕ) → after ≡ differences n table → after ≡ differences_output n table out
  image_new h after f = f ∙ sym (differences_written n table out (sym h))

  pub image_kept : (e : Refusal) → number e ≡ differences_number n table out → out ≡ differences_output n table out
  unfolding differences_output
  image_kept e h = output_old (number e) (differences_number n table out) (differences n table) out h (refused e)
