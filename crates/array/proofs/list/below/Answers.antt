use Rattle.array.proofs.Below.{tested_next, tested_all}
use Rattle.array.proofs.list.below.Goals as goal

pub loop-x-preserved : goal.loop-x-preserved
loop-x-preserved c = search tested_next

pub returns : goal.returns
returns c = search tested_all
