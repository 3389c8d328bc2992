-- `adjust` multiplies at most q times.
use Prim.Native.Nat.{◌<◌}
use Rattle.roots.proofs.root.adjust.Given as goal

abbrev pub invariant-loop-j : goal.invariant-loop-j
invariant-loop-j l = l.r < l.p
