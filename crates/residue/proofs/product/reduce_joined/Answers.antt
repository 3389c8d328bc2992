use Rattle.residue.proofs.product.JoinLoop.{painted_start, reduce_turn, reduce_done}
use Rattle.residue.proofs.product.reduce_joined.Goals as goal

pub loop-j-init : goal.loop-j-init
loop-j-init c = search painted_start

pub loop-j-preserved : goal.loop-j-preserved
loop-j-preserved c = search reduce_turn

pub returns : goal.returns
returns c = search reduce_done
