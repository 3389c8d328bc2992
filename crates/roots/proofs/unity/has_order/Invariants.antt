-- `has_order` compares the powers of w with 1, from the first on.
use Rattle.roots.proofs.unity.OrderScan.{Lower}
use Rattle.roots.proofs.unity.has_order.Given as goal

abbrev pub invariant-loop-m : goal.invariant-loop-m
invariant-loop-m l = Lower l.p l.n l.w l.x l._m
