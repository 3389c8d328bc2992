use Rattle.scalar.proofs.vector.VectorScan.{first_non_zero_turn, first_non_zero_found, first_non_zero_none}
use Rattle.scalar.proofs.vector.first_non_zero.Goals as goal

pub loop-x-preserved : goal.loop-x-preserved
loop-x-preserved c = search first_non_zero_turn

pub returns-then-x-ne0 : goal.returns-then-x-ne0
returns-then-x-ne0 c = search first_non_zero_found

pub returns : goal.returns
returns c = search first_non_zero_none
