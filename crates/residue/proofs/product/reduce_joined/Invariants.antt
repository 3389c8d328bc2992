-- Before turn j the first j words are the joined ones modulo p.
use mathlib.Core.Path.{◌≡◌}
use lib.ListN.{replicate}
use Rattle.array.proofs.Painted.{painted}
use Rattle.residue.specs.Delayed.{joined}
use Rattle.residue.proofs.Remainders.{remainder}
use Rattle.residue.proofs.product.reduce_joined.Given as goal

abbrev pub invariant-loop-j : goal.invariant-loop-j
invariant-loop-j l = l.w ≡ painted (replicate 16 0) (remainder l.d.p (joined l.n 0 l.e l.o)) l.j
