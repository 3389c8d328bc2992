-- Begin's answer, by the tests of the code.
use Rattle.std.specs.Prelude.{Ok}
use mathlib.Core.Path.{◌≡◌, sym, ap, ◌∙◌}
use Prim.Native.Nat.{ℕ}
use Rattle.work.specs.Number.{or_else, state_number, full_number}
use Rattle.work.specs.declared.Work.{Work}
use Rattle.work.proofs.Numbers.{or_first, or_next}
use Rattle.work.specs.Step.{Answers}
use Rattle.work.specs.declared.Table.TheVariants.{Open}
use Rattle.held.specs.Held.{new_held}
use Rattle.held.specs.declared.Held.{Held}
use Rattle.ledger.specs.declared.Direction.{Direction}
use Rattle.running.specs.Running.{begin_number, begin}

module _ (x : Work) (k j : ℕ) (e : j ≡ state_number x) where
  pub state_refused : (j ≡ 0 → ⊥) → j ≡ begin_number x k
  unfolding begin_number
  state_refused h = or_first j (full_number k) h ∙ ap (λ i. or_else i (full_number k)) e

  pub room_decides : j ≡ 0 → (i : ℕ) → i ≡ full_number k → i ≡ begin_number x k
  unfolding begin_number
  room_decides h i g = g ∙ or_next (state_number x) (full_number k) (sym e ∙ h)

pub opens : (d : Direction) (x : Work) (k : ℕ) → begin_number x k ≡ 0 → (w : Held) → w ≡ new_held
    → Answers (Ok (record { held = x.held; table = Open (record { direction = d; residues = 0 }); waiting = w })) (begin d x k)
unfolding begin
opens d x k z w e = (z, rw e)
