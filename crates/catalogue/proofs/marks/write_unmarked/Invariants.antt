-- Before a turn at a code the first words are the digits of the codes below it.
use Rattle.catalogue.proofs.marks.Loops.{Writing}
use Rattle.catalogue.proofs.marks.write_unmarked.Given as goal

abbrev pub invariant-loop-code : goal.invariant-loop-code
invariant-loop-code l = Writing l.p l.n l.size l.marks l.out l.at l.code
