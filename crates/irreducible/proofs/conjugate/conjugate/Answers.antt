use Rattle.matrix.proofs.FrobeniusMatrix.{frobenius_square}
use Rattle.irreducible.proofs.conjugate.Iteration.{conjugate_starts, conjugate_of_x_holds, conjugate_of_x_next}
use Rattle.irreducible.proofs.conjugate.conjugate.Goals as goal

pub loop-i-init : goal.loop-i-init
loop-i-init c = search conjugate_starts

pub products-u-requires-clause-square : goal.products-u-requires-clause-square
products-u-requires-clause-square c = (search frobenius_square, search conjugate_of_x_holds)

pub loop-i-preserved : goal.loop-i-preserved
loop-i-preserved c = search conjugate_of_x_next
