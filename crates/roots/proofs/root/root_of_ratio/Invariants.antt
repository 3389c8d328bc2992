-- `root_of_ratio` keeps the least of the multiples of one solution by the powers of ζ; every solution is one of them.
use Rattle.roots.proofs.root.RootScan.{Least}
use Rattle.roots.proofs.root.root_of_ratio.Given as goal

abbrev pub invariant-loop-k : goal.invariant-loop-k
invariant-loop-k l = Least l.p l.n l.z l.a1 l.a2 l.initial.x l.least l.x l._k
