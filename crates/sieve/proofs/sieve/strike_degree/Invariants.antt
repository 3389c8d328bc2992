-- Before turn c the multiples of the polynomials of degree n with a code below p^n + c are struck out.
use Rattle.sieve.proofs.sieve.Passing.{Passing}
use Rattle.sieve.proofs.sieve.strike_degree.Given as goal

abbrev pub invariant-loop-c : goal.invariant-loop-c
invariant-loop-c l = Passing l.p l.n l.m l.size l.c l.xs l.codes l.initial.marks l.marks
