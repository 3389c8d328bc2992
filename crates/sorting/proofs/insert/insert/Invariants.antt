-- Before turn j what is carried is to be inserted into the rows from j on.
use Rattle.sorting.proofs.insert.InsertLoop.{Carrying}
use Rattle.sorting.proofs.insert.insert.Given as goal

abbrev pub invariant-loop-j : goal.invariant-loop-j
invariant-loop-j l = Carrying l.n l.k l.u l.initial.out l.out l.carried l.j
