use Rattle.std.proofs.Common.{rules}
use Rattle.roots.proofs.root.RootScan.{least_start, least_lower, least_same, least_end}
use Rattle.roots.proofs.root.root_of_ratio.Goals as goal
use Rattle.roots.proofs.root.root_of_ratio.Goals.{then-x-least, else-x-least}

pub loop-k-init : goal.loop-k-init
loop-k-init c = search least_start

pub loop-k-preserved : goal.loop-k-preserved
loop-k-preserved c = elim c.if-x-least.branch [ then-x-least w ↦ search least_lower | else-x-least w ↦ search least_same ]

pub returns : goal.returns
returns c = (search least_end, search rules)
