-- `reduced`: before turn i the first i numbers are reduced.
use Rattle.character.proofs.four.PowerTurn.{Reduced}
use Rattle.character.proofs.four.reduced.Given as goal

abbrev pub invariant-loop-i : goal.invariant-loop-i
invariant-loop-i l = Reduced l.m.p l.x l.i l.r
