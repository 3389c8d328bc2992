use Rattle.matrix.proofs.product.RowLoop.{list_place, list_term, row_starts, row_turn, list_row}
use Rattle.matrix.proofs.words.dot_list.Goals as goal

pub loop-j-init : goal.loop-j-init
loop-j-init g c = search row_starts

pub bounds-u-j : goal.bounds-u-j
bounds-u-j g c = search list_place

pub loop-j-preserved : goal.loop-j-preserved
loop-j-preserved g c = search (row_turn, list_term)

pub returns : goal.returns
returns g c = search list_row
