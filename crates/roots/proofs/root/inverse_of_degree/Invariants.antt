-- `inverse_of_degree` adds m at most n times.
use Prim.Native.Nat.{◌+◌, ◌*◌, ◌≤◌}
use Rattle.roots.proofs.root.inverse_of_degree.Given as goal

abbrev pub invariant-loop-k : goal.invariant-loop-k
invariant-loop-k l = l.x ≤ 1 + 1048576 * l._k
