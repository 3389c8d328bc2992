-- Before turn k the first k words are copied.
use Rattle.differences.specs.Clauses.{Begun}
use Rattle.differences.proofs.store.keep_first.Given as goal

abbrev pub invariant-loop-k : goal.invariant-loop-k
invariant-loop-k l = Begun l.k l.table l.out
