-- Before turn i there are i ones.
use Rattle.array.specs.Array.{Holds}
use Rattle.resolvent.proofs.lagrange.ones.Given as goal

abbrev pub invariant-loop-i : goal.invariant-loop-i
invariant-loop-i l = Holds 2 l.i l.w
