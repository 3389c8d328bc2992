-- `store`: before turn i the first i words are copied.
use mathlib.Core.Path.{◌≡◌}
use Rattle.array.proofs.Painted.{painted}
use Rattle.array.proofs.Copying.{entry}
use Rattle.array.proofs.copy.store.Given as goal

abbrev pub invariant-loop-i : goal.invariant-loop-i
invariant-loop-i l = l.xs ≡ painted l.initial.xs (entry l.w) l.i
