-- Before turn j the first j words are reduced.
use mathlib.Core.Path.{◌≡◌}
use Rattle.array.proofs.Painted.{painted}
use Rattle.residue.proofs.Remainders.{remainder}
use Rattle.residue.proofs.ring.reduce.Given as goal

abbrev pub invariant-loop-j : goal.invariant-loop-j
invariant-loop-j l = l.w ≡ painted l.initial.w (remainder l.d.p l.initial.w) l.j
