-- Before turn j the sum has the first j products; the last one joins it at the end.
use Prim.Native.Nat.{◌+◌, ◌≤◌}
use Rattle.traces.proofs.newton.TraceLoop.{Partial}
use Rattle.traces.proofs.newton.trace.Given as goal

abbrev pub invariant-loop-j : goal.invariant-loop-j
invariant-loop-j l = (l.j ≤ l.k + 1) × Partial l.t.d.p l.j l.sum
