use Rattle.array.proofs.Painted.{painted_none}
use Rattle.array.proofs.Copying.{copy_turn, store_done, store_fits}
use Rattle.array.proofs.copy.store.Goals as goal

pub loop-i-init : goal.loop-i-init
loop-i-init c = search painted_none

pub overflow_cast-x : goal.overflow_cast-x
overflow_cast-x c = search store_fits

pub loop-i-preserved : goal.loop-i-preserved
loop-i-preserved c = search copy_turn

pub returns : goal.returns
returns c = search store_done
