-- `load`: before turn i the first i words are copied.
use mathlib.Core.Path.{◌≡◌}
use Rattle.array.proofs.Painted.{painted}
use Rattle.array.proofs.Copying.{entry}
use Rattle.array.proofs.copy.load.Given as goal

abbrev pub invariant-loop-i : goal.invariant-loop-i
invariant-loop-i l = l.w ≡ painted l.initial.w (entry l.xs) l.i
