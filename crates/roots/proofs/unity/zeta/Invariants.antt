-- `zeta` keeps the smallest of the powers of w that have order n; every element of order n is one of them.
use Rattle.roots.proofs.unity.OrderScan.{SmallestOfPowers}
use Rattle.roots.proofs.unity.zeta.Given as goal

abbrev pub invariant-loop-k : goal.invariant-loop-k
invariant-loop-k l = SmallestOfPowers l.p l.n l.w l.least l.x l._k
