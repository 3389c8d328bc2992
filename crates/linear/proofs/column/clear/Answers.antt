use Rattle.linear.proofs.Pivoting.{clear_turn, clear_skip, clear_end}
use Rattle.linear.proofs.column.clear.Goals as goal
use Rattle.linear.proofs.column.clear.Goals.{then-i-c, else-i-c}

pub loop-i-preserved : goal.loop-i-preserved
loop-i-preserved c = elim c.if-i-c.branch [ then-i-c w ↦ search clear_turn | else-i-c w ↦ search clear_skip ]

pub returns : goal.returns
returns c = search clear_end
