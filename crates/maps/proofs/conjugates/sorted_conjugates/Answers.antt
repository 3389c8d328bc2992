use Rattle.matrix.proofs.FrobeniusMatrix.{frobenius_square}
use Rattle.maps.proofs.conjugates.SortLoop.{sort_starts, next_holds, next_word, rows_words, sort_turn}
use Rattle.maps.proofs.conjugates.sorted_conjugates.Goals as goal

pub loop-k-init : goal.loop-k-init
loop-k-init c = search sort_starts

pub insert-requires-clause-holds : goal.insert-requires-clause-holds
insert-requires-clause-holds c = (search next_word, search rows_words)

pub products-u-requires-clause-square : goal.products-u-requires-clause-square
products-u-requires-clause-square c = (search frobenius_square, search next_holds)

pub loop-k-preserved : goal.loop-k-preserved
loop-k-preserved c = search sort_turn
