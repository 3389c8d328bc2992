-- Before turn k the first k conjugates are in order.
use Rattle.maps.proofs.conjugates.SortLoop.{Sorting}
use Rattle.maps.proofs.conjugates.sorted_conjugates.Given as goal

abbrev pub invariant-loop-k : goal.invariant-loop-k
invariant-loop-k l = Sorting l.t.d.p l.t.n l.t.words l.s l.initial.out l.out l.u l.k
