-- Before a turn the words of the rows above row i are stored, and of row i those before column j.
use Rattle.std.proofs.Common.{◌+◌, ◌*◌}
use Rattle.bymatrix.proofs.rows.Loops.{Storing}
use Rattle.bymatrix.proofs.rows.store_rows.Given as goal

abbrev pub invariant-loop-i : goal.invariant-loop-i
invariant-loop-i l = Storing l.n l.m l.fn.out l.out (l.i * l.n)

abbrev pub invariant-loop-j : goal.invariant-loop-j
invariant-loop-j l = Storing l.n l.m l.fn.out l.out (l.i * l.n + l.j)
