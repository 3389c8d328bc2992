use Rattle.array.proofs.Painted.{painted_none}
use Rattle.matrix.proofs.product.ProductLoop.{products_turn, products_done}
use Rattle.matrix.proofs.product.RowLoop.{products_factors}
use Rattle.matrix.proofs.product.products.Goals as goal

pub loop-i-init : goal.loop-i-init
loop-i-init c = search painted_none

pub dot-requires-clause-factors : goal.dot-requires-clause-factors
dot-requires-clause-factors c = search products_factors

pub loop-i-preserved : goal.loop-i-preserved
loop-i-preserved c = search products_turn

pub returns : goal.returns
returns c = search products_done
