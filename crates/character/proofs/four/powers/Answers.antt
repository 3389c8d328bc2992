use Rattle.character.proofs.four.PowerTurn.{powers_turn, powers_end}
use Rattle.character.proofs.four.powers.Goals as goal

pub loop-e-preserved : goal.loop-e-preserved
loop-e-preserved c = search powers_turn

pub returns-clause-value : goal.returns-clause-value
returns-clause-value c = search powers_end
