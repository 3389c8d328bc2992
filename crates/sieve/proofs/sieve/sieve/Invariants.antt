-- Before degree m the lower degrees are sieved, and from p^m on nothing is marked.
use Rattle.sieve.proofs.sieve.Degrees.{Degrees}
use Rattle.sieve.proofs.sieve.sieve.Given as goal

abbrev pub invariant-loop-m : goal.invariant-loop-m
invariant-loop-m l = Degrees l.p l.n l.m l.xs l.codes l.marks
