use Rattle.matrix.proofs.product.RowLoop.{array_term, sum_fits, row_starts, row_turn, array_row}
use Rattle.matrix.proofs.product.dot.Goals as goal

pub loop-j-init : goal.loop-j-init
loop-j-init c = search row_starts

pub overflow_add-sum : goal.overflow_add-sum
overflow_add-sum c = search (sum_fits, array_term)

pub loop-j-preserved : goal.loop-j-preserved
loop-j-preserved c = search (row_turn, array_term)

pub returns : goal.returns
returns c = search array_row
