-- `multiply`: before turn i the first i products are written.
use Rattle.character.proofs.four.PowerTurn.{Multiplied}
use Rattle.character.proofs.four.multiply.Given as goal

abbrev pub invariant-loop-i : goal.invariant-loop-i
invariant-loop-i l = Multiplied l.m.p l.x l.y l.i l.r
