-- `first_non_zero` scans the words from the first on.
use lib.ListN.{take}
use Rattle.scalar.proofs.vector.VectorScan.{ZerosBefore}
use Rattle.scalar.proofs.vector.first_non_zero.Given as goal

abbrev pub invariant-loop-x : goal.invariant-loop-x
invariant-loop-x l = ZerosBefore (take l.n l.u) l.x-index
