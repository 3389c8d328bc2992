-- `radicand` tries the numbers from 1 on; some number below p is right.
use Prim.Native.Nat.{◌-◌}
use Rattle.roots.proofs.Radicands.{RadicandScan}
use Rattle.roots.proofs.radicand.radicand.Given as goal

abbrev pub invariant-loop-w : goal.invariant-loop-w
invariant-loop-w l = RadicandScan l.p l.n l.z l.d l.table l.a l.w

abbrev pub decreases-loop-w : goal.decreases-loop-w
decreases-loop-w l = l.p - l.a
