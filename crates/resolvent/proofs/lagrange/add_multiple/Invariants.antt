-- Before turn i the first i words have their term more.
use Rattle.resolvent.proofs.lagrange.AddLoop.{Adding}
use Rattle.resolvent.proofs.lagrange.add_multiple.Given as goal

abbrev pub invariant-loop-i : goal.invariant-loop-i
invariant-loop-i l = Adding l.p l.k l.i l.sums
