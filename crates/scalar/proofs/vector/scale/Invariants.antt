-- `scale` writes the words of c·u one after another.
use mathlib.Core.Path.{◌≡◌}
use Rattle.array.proofs.Painted.{painted}
use Rattle.scalar.proofs.vector.VectorScan.{scaled_word}
use Rattle.scalar.proofs.vector.scale.Given as goal

abbrev pub invariant-loop-i : goal.invariant-loop-i
invariant-loop-i l = l.w ≡ painted l.initial.w (scaled_word l.p l.c l.u) l.i
