-- Before turn i the first i coefficients are written.
use Rattle.array.specs.Array.{Holds}
use Rattle.traces.proofs.polynomial.coefficients.Given as goal

abbrev pub invariant-loop-i : goal.invariant-loop-i
invariant-loop-i l = Holds l.d.p l.i l.r
