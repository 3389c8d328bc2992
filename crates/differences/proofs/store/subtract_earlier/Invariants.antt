-- Before turn k the first k words are those of the differences.
use Rattle.differences.specs.Clauses.{Begun}
use Rattle.differences.specs.Differences.{differences}
use Rattle.differences.proofs.store.subtract_earlier.Given as goal

abbrev pub invariant-loop-k : goal.invariant-loop-k
invariant-loop-k l = Begun l.k (differences l.n l.table) l.out
