-- `multiply`: the products are small enough to be reduced.
use Rattle.modular.proofs.Factors.{few}
use Rattle.character.proofs.four.PowerTurn.{multiply_turn}
use Rattle.character.proofs.four.multiply.Goals as goal

pub near-requires : goal.near-requires
near-requires c = search (few, c.requires.0.below c.loop-i.i, c.requires.1.below c.loop-i.i)

pub loop-i-preserved : goal.loop-i-preserved
loop-i-preserved c = search multiply_turn
