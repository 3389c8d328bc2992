-- `find_pivot` finds the first row that is not 0 in column c. The loop's invariant: the rows passed are 0 there.
use Rattle.linear.proofs.Pivoting.{Scanned}
use Rattle.linear.proofs.column.find_pivot.Given as goal

abbrev pub invariant-loop-i : goal.invariant-loop-i
invariant-loop-i l = Scanned l.n l.c l.m l.i
