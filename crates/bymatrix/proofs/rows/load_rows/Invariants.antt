-- Before a turn the words of the rows above row i are loaded, and of row i those before column j.
use Rattle.std.proofs.Common.{◌+◌, ◌*◌}
use Rattle.bymatrix.proofs.rows.Loops.{Loading}
use Rattle.bymatrix.proofs.rows.load_rows.Given as goal

abbrev pub invariant-loop-i : goal.invariant-loop-i
invariant-loop-i l = Loading l.n l.matrix l.m (l.i * l.n)

abbrev pub invariant-loop-j : goal.invariant-loop-j
invariant-loop-j l = Loading l.n l.matrix l.m (l.i * l.n + l.j)
