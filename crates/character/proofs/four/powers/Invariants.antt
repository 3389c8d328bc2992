-- `powers`: before each turn r·b^e = x^k for each of the four; the measure is e, which halves.
use Rattle.character.proofs.four.PowerTurn.{Powers}
use Rattle.character.proofs.four.powers.Given as goal

abbrev pub invariant-loop-e : goal.invariant-loop-e
invariant-loop-e l = Powers l.m.p l.k l.initial.b l.r l.b l.e

abbrev pub decreases-loop-e : goal.decreases-loop-e
decreases-loop-e l = l.e
