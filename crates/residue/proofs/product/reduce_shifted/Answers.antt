use Rattle.residue.proofs.product.JoinLoop.{painted_start}
use Rattle.residue.proofs.product.ShiftLoop.{shift_turn, shift_done}
use Rattle.residue.proofs.product.reduce_shifted.Goals as goal

pub loop-j-init : goal.loop-j-init
loop-j-init c = search painted_start

pub loop-j-preserved : goal.loop-j-preserved
loop-j-preserved c = search shift_turn

pub returns : goal.returns
returns c = search shift_done
