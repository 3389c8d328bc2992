-- Before each turn the count is that of the codes whose marks are passed.
use Rattle.catalogue.proofs.marks.Loops.{Counting}
use Rattle.catalogue.proofs.marks.count_unmarked.Given as goal

abbrev pub invariant-loop-mark : goal.invariant-loop-mark
invariant-loop-mark l = Counting l.size l.marks l.count l.mark-index
