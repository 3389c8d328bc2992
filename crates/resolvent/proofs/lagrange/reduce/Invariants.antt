-- Before turn i there are i words.
use Rattle.array.specs.Array.{Holds}
use Rattle.resolvent.proofs.lagrange.reduce.Given as goal

abbrev pub invariant-loop-i : goal.invariant-loop-i
invariant-loop-i l = Holds l.d.p l.i l.w
