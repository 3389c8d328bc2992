-- `element_of_order` tries the numbers from 31415 on, modulo p; some number modulo p is right.
use Prim.Native.Nat.{◌+◌, ◌-◌}
use Rattle.roots.proofs.unity.OrderScan.{NoneBefore}
use Rattle.roots.proofs.unity.element_of_order.Given as goal

abbrev pub invariant-loop-w : goal.invariant-loop-w
invariant-loop-w l = NoneBefore 31415 l.p l.n l.g l.w

abbrev pub decreases-loop-w : goal.decreases-loop-w
decreases-loop-w l = 31415 + l.p - l.g
