-- Before turn j the sums have j terms, and x and c are the image and the factor of the last of them.
use Prim.Native.Nat.{◌<◌}
use Rattle.array.specs.Array.{Holds}
use Rattle.resolvent.specs.Sums.{Sums}
use Rattle.resolvent.proofs.lagrange.sum_of_terms.Given as goal

abbrev pub invariant-loop-j : goal.invariant-loop-j
invariant-loop-j l = (l.c < l.d.p) × Holds l.d.p l.n l.x × Sums l.d.p l.j l.sums
