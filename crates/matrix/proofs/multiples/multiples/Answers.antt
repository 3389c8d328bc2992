use Rattle.matrix.proofs.multiples.MultipleColumns.{multiple_holds, multiple_first, multiples_one, multiple_turn, multiples_turn}
use Rattle.matrix.proofs.multiples.multiples.Goals as goal

pub loop-k-init : goal.loop-k-init
loop-k-init c = (search multiple_first, search multiples_one)

pub times_x-requires : goal.times_x-requires
times_x-requires c = search multiple_holds

pub loop-k-preserved : goal.loop-k-preserved
loop-k-preserved c = (search multiple_turn, search multiples_turn)
