-- `add_multiple` gives a row operation. The loop's invariant: the columns from c to j − 1 of row x are written, and the rest is as it was.
use Rattle.linear.proofs.row.Write.{Written}
use Rattle.linear.proofs.row.RowStep.{added}
use Rattle.linear.proofs.row.add_multiple.Given as goal

abbrev pub invariant-loop-j : goal.invariant-loop-j
invariant-loop-j l = Written (added l.d.p l.f l.initial.m l.x l.y) l.x l.c l.j l.initial.m l.m
