-- Before turn i the first i rows are added.
use Rattle.traces.specs.Sums.{Sums}
use Rattle.traces.proofs.polynomial.row_sums.Given as goal

abbrev pub invariant-loop-i : goal.invariant-loop-i
invariant-loop-i l = Sums l.p l.n l.i l.w
