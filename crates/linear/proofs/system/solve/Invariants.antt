-- `solve` walks the columns. The loop's invariant: the system is equivalent to the first, and its first c columns are those of the identity.
use Rattle.linear.specs.Elimination.{Advanced}
use Rattle.linear.proofs.system.solve.Given as goal

abbrev pub invariant-loop-c : goal.invariant-loop-c
invariant-loop-c l = Advanced l.d.p l.n l.c l.initial.m l.initial.v l.m l.v
