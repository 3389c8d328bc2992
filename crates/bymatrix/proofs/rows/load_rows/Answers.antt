use Rattle.bymatrix.proofs.rows.Loops.{load_starts, load_begins, load_turn, load_row, load_done}
use Rattle.bymatrix.proofs.rows.load_rows.Goals as goal

pub loop-i-init : goal.loop-i-init
loop-i-init c = search load_starts

pub loop-j-init : goal.loop-j-init
loop-j-init c = search load_begins

pub loop-j-preserved : goal.loop-j-preserved
loop-j-preserved c = search load_turn

pub loop-i-preserved : goal.loop-i-preserved
loop-i-preserved c = search load_row

pub returns : goal.returns
returns c = search load_done
