use Rattle.array.proofs.Painted.{painted_none}
use Rattle.residue.proofs.ring.ReduceLoop.{reduce_asks, reduce_turn, reduce_done}
use Rattle.residue.proofs.ring.reduce.Goals as goal

pub loop-j-init : goal.loop-j-init
loop-j-init c = search painted_none

pub reduce-requires : goal.reduce-requires
reduce-requires c = search reduce_asks

pub loop-j-preserved : goal.loop-j-preserved
loop-j-preserved c = search reduce_turn

pub returns : goal.returns
returns c = search reduce_done
