-- `coprime_part` divides by common factors, as often as each divides.
use Prim.Native.Nat.{◌≤◌}
use Rattle.roots.proofs.root.coprime_part.Given as goal

abbrev pub invariant-loop-q : goal.invariant-loop-q
invariant-loop-q l = (1 ≤ l.r) × (l.r ≤ 1048576)

abbrev pub invariant-loop-r : goal.invariant-loop-r
invariant-loop-r l = (1 ≤ l.r) × (l.r ≤ 1048576)

abbrev pub decreases-loop-r : goal.decreases-loop-r
decreases-loop-r l = l.r
