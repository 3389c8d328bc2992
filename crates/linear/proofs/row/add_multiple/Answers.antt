use Rattle.linear.proofs.row.RowLoop.{added_turn, added_end}
use Rattle.linear.proofs.row.add_multiple.Goals as goal

pub loop-j-preserved : goal.loop-j-preserved
loop-j-preserved c = search added_turn

pub returns : goal.returns
returns c = search added_end
