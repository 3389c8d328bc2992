use Rattle.array.proofs.Painted.{painted_none}
use Rattle.matrix.proofs.product.ProductLoop.{apply_turn}
use Rattle.matrix.proofs.words.WordLoop.{list_done}
use Rattle.matrix.proofs.words.multiply_few.Goals as goal

pub loop-i-init : goal.loop-i-init
loop-i-init g c = search painted_none

pub loop-i-preserved : goal.loop-i-preserved
loop-i-preserved g c = search apply_turn

pub returns : goal.returns
returns g c = search list_done
