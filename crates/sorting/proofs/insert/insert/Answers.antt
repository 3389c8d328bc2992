use Rattle.sorting.proofs.insert.InsertLoop.{carry_turn, carried_last}
use Rattle.sorting.proofs.insert.insert.Goals as goal

pub loop-j-preserved : goal.loop-j-preserved
loop-j-preserved c = search carry_turn

pub returns : goal.returns
returns c = search carried_last
