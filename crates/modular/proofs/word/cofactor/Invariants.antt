-- `word::cofactor` is Euclid's algorithm, with Bézout's equation as its invariant. The measure is y, which the remainder replaces.
use Rattle.modular.proofs.word.Bezout.{Bezout}
use Rattle.modular.proofs.word.cofactor.Given as goal

abbrev pub invariant-loop-y : goal.invariant-loop-y
invariant-loop-y l = Bezout l.p l.a l.x l.s l.y l.t

abbrev pub decreases-loop-y : goal.decreases-loop-y
decreases-loop-y l = l.y
