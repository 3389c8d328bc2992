-- What is given where no refusal applies, and what the list lent for the restored table holds after the call.
use mathlib.Core.Path.{◌≡◌, sym, ◌∙◌}
use mathlib.Core.List.{List}
use Prim.Native.Nat.{ℕ}
use Rattle.refusal.specs.Number.{number}
use Rattle.refusal.specs.declared.number.Refusal.{Refusal}
use Rattle.refusal.proofs.Refused.{refused}
use Rattle.refusal.proofs.Written.{output_old}
use Rattle.differences.specs.Differences.{restored, differences_number, restore_output}
use Rattle.restoring.specs.Clauses.{Whole}
use Rattle.differences.proofs.Given.{stored_given, restored_written}

module _ (n : ℕ) (table out : List ℕ) where
  pub stored_whole : 0 ≡ differences_number n table out → Whole n table out
  stored_whole h =
      let (degree, lengths) = stored_given n table out (sym h) in
      record { low = degree.0; high = degree.1; few = lengths.few; groups = lengths.groups; room = lengths.lengths }

  pub image_new : 0 ≡ differences_number n table out → (after : List ℕ) → after ≡ restored n table → after ≡ restore_output n table out
  image_new h after f = f ∙ sym (restored_written n table out (sym h))

  pub image_kept : (e : Refusal) → number e ≡ differences_number n table out → out ≡ restore_output n table out
  unfolding restore_output
  image_kept e h = output_old (number e) (differences_number n table out) (restored n table) out h (refused e)
