use Rattle.array.proofs.Painted.{painted_none}
use Rattle.matrix.proofs.powers.ColumnLoops.{column_turn, column_done}
use Rattle.matrix.proofs.powers.column.Goals as goal

pub loop-i-init : goal.loop-i-init
loop-i-init c = search painted_none

pub loop-i-preserved : goal.loop-i-preserved
loop-i-preserved c = search column_turn

pub returns : goal.returns
returns c = search column_done
