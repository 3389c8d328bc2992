-- Before turn j the first j of the sums have their product.
use Rattle.traces.proofs.polynomial.RowLoop.{AddedRow}
use Rattle.traces.proofs.polynomial.add_row.Given as goal

abbrev pub invariant-loop-j : goal.invariant-loop-j
invariant-loop-j l = AddedRow l.p l.n l.i l.j l.w
