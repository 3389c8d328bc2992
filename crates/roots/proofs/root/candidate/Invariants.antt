-- `candidate`: the numbers stay small; each turn of the inner loop divides d.
use Prim.Native.Nat.{◌≤◌, ◌<◌}
use Rattle.roots.proofs.root.candidate.Given as goal

abbrev pub invariant-loop-q : goal.invariant-loop-q
invariant-loop-q l = (l.y < l.p) × (l.h < l.p) × (l.d ≤ 1048576)

abbrev pub invariant-loop-d : goal.invariant-loop-d
invariant-loop-d l = (l.y < l.p) × (l.h < l.p) × (l.d ≤ 1048576)

abbrev pub decreases-loop-d : goal.decreases-loop-d
decreases-loop-d l = l.d
