use Rattle.bymatrix.proofs.rows.Loops.{store_starts, store_begins, store_turn, store_row, store_done}
use Rattle.bymatrix.proofs.rows.store_rows.Goals as goal

pub loop-i-init : goal.loop-i-init
loop-i-init c = search store_starts

pub loop-j-init : goal.loop-j-init
loop-j-init c = search store_begins

pub loop-j-preserved : goal.loop-j-preserved
loop-j-preserved c = search store_turn

pub loop-i-preserved : goal.loop-i-preserved
loop-i-preserved c = search store_row

pub returns : goal.returns
returns c = search store_done
