-- `differences`: the matrix of u ↦ u^p, and 1 subtracted on its diagonal.
use Rattle.matrix.proofs.FrobeniusMatrix.{frobenius_square}
use Rattle.tower.proofs.equation.differences.Goals as goal

pub minus-requires-clause-square : goal.minus-requires-clause-square
minus-requires-clause-square c = search frobenius_square
