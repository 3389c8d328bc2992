-- Before turn k the output begins with the products of the first k groups.
use Rattle.table.proofs.convert.Laws.{Progress}
use Rattle.table.proofs.convert.convert_groups.Given as goal

abbrev pub invariant-loop-k : goal.invariant-loop-k
invariant-loop-k l = Progress l.d.p l.n l.m l.table l.out l.k
