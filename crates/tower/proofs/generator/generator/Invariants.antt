-- `generator`: one round after the other.
use Rattle.tower.specs.Generator.{Reached}
use lib.ListN.{take}
use Rattle.tower.proofs.generator.generator.Given as goal

abbrev pub invariant-loop-round : goal.invariant-loop-round
invariant-loop-round l = Reached l.t.d.p l.t.n (take l.t.n l.t.words) l._round l.a l.alpha
