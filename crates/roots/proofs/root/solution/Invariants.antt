-- `solution` tests the candidate; otherwise the scan ends before p, for the smallest solution is below p.
use Prim.Native.Nat.{◌-◌}
use Rattle.roots.proofs.RootsOfUnity.{Solution}
use Rattle.algebra.proofs.NumberScan.{Searched}
use Rattle.roots.proofs.root.solution.Given as goal

abbrev pub invariant-loop-c : goal.invariant-loop-c
invariant-loop-c l = Searched (Solution l.p l.n l.a1 l.a2) 1 l.p l.c

abbrev pub decreases-loop-c : goal.decreases-loop-c
decreases-loop-c l = l.p - l.c
