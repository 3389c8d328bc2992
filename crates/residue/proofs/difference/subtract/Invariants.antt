-- `subtract` writes the words of u − v one after another.
use mathlib.Core.Path.{◌≡◌}
use Rattle.array.proofs.Painted.{painted}
use Rattle.residue.proofs.difference.Subtraction.{minus_word}
use Rattle.residue.proofs.difference.subtract.Given as goal

abbrev pub invariant-loop-i : goal.invariant-loop-i
invariant-loop-i l = l.w ≡ painted l.initial.w (minus_word l.p l.u l.v) l.i
