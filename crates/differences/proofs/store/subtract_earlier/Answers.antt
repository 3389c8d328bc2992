use Rattle.differences.proofs.store.Laws.{differences_begin, subtract_turn, subtract_done}
use Rattle.differences.proofs.store.subtract_earlier.Goals as goal

pub loop-k-init : goal.loop-k-init
loop-k-init c = search differences_begin

pub loop-k-preserved : goal.loop-k-preserved
loop-k-preserved c = search subtract_turn

pub returns : goal.returns
returns c = search subtract_done
