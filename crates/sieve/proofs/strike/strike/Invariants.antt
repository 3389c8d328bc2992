-- Before turn h the words of the first h blocks are struck out.
use Rattle.sieve.proofs.strike.Strikes.{Striking}
use Rattle.sieve.proofs.strike.strike.Given as goal

abbrev pub invariant-loop-h : goal.invariant-loop-h
invariant-loop-h l = Striking l.base l.q l.count l.h l.from l.codes l.initial.marks l.marks
