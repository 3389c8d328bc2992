use Rattle.std.proofs.Common.{rules}
use Rattle.modular.proofs.word.Bezout.{bezout_turn, bezout_end}
use Rattle.modular.proofs.word.cofactor.Goals as goal

pub loop-y-preserved : goal.loop-y-preserved
loop-y-preserved c = search bezout_turn

pub returns : goal.returns
returns c = bezout_end _ _ _ _ _ _ c.loop-y.invariant c.requires.prime (search rules) (search rules)
