use Rattle.array.proofs.Painted.{painted_none}
use Rattle.array.proofs.Copying.{copy_turn, load_done}
use Rattle.array.proofs.copy.load.Goals as goal

pub loop-i-init : goal.loop-i-init
loop-i-init c = search painted_none

pub loop-i-preserved : goal.loop-i-preserved
loop-i-preserved c = search copy_turn

pub returns : goal.returns
returns c = search load_done
