-- `exponent` multiplies by p until n is reached or passed.
use Prim.Native.Nat.{◌-◌}
use Rattle.tower.proofs.exponent.Powers.{PowersBelow}
use Rattle.tower.proofs.exponent.exponent.Given as goal

abbrev pub invariant-loop-q : goal.invariant-loop-q
invariant-loop-q l = PowersBelow l.p l.n l.k l.q

abbrev pub decreases-loop-q : goal.decreases-loop-q
decreases-loop-q l = l.n - l.q
