-- Before degree n the multiples of the polynomials of lower degree are struck out.
use Rattle.sieve.proofs.sieve.Degree.{Sieving}
use Rattle.sieve.proofs.sieve.sieve_degree.Given as goal

abbrev pub invariant-loop-n : goal.invariant-loop-n
invariant-loop-n l = Sieving l.p l.m l.n l.xs l.codes l.initial.marks l.marks
