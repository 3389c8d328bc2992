use Rattle.std.proofs.Common.{rules}
use Rattle.array.proofs.Painted.{painted_none}
use Rattle.scalar.proofs.vector.VectorScan.{word_small, scale_turn, scale_done}
use Rattle.scalar.proofs.vector.scale.Goals as goal

pub loop-i-init : goal.loop-i-init
loop-i-init c = search painted_none

pub mul-requires : goal.mul-requires
mul-requires c = (search rules, search rules, search word_small)

pub loop-i-preserved : goal.loop-i-preserved
loop-i-preserved c = search scale_turn

pub returns : goal.returns
returns c = search scale_done
