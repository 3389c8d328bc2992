-- `clear` makes column c that of the identity. The loop's invariant: the rows passed, but for row c, are 0 in column c.
use Rattle.linear.proofs.Pivoting.{Clearing}
use Rattle.linear.proofs.column.clear.Given as goal

abbrev pub invariant-loop-i : goal.invariant-loop-i
invariant-loop-i l = Clearing l.d.p l.n l.c l.i l.initial.m l.initial.b l.m l.b
