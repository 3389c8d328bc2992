use Rattle.std.proofs.Common.{rules}
use Rattle.linear.proofs.row.RowLoop.{scaled_turn, scaled_end}
use Rattle.linear.proofs.row.scale.Goals as goal

pub loop-j-preserved : goal.loop-j-preserved
loop-j-preserved c = (search rules, search rules, search scaled_turn)

pub returns : goal.returns
returns c = search scaled_end
