-- Before turn k the first k traces are written.
use Prim.Native.Nat.{◌+◌, ◌*◌, ◌≤◌}
use Rattle.array.specs.Array.{Holds}
use Rattle.traces.proofs.newton.traces.Given as goal

abbrev pub invariant-loop-k : goal.invariant-loop-k
invariant-loop-k l = (l.last ≤ 2 * l.t.d.p) × Holds (2 * l.t.d.p + 1) l.k l.s
