-- Before each turn the words from word j on agree.
use Rattle.sorting.proofs.order.Comparison.{Agree}
use Rattle.sorting.proofs.order.lower.Given as goal

abbrev pub invariant-loop-j : goal.invariant-loop-j
invariant-loop-j l = Agree l.n l.u l.v l.j
