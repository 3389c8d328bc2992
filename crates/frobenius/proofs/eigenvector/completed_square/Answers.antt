-- `completed_square`: two words below p, the second of them 2.
use Rattle.frobenius.proofs.eigenvector.Square.{square_holds, square_not_zero}
use Rattle.frobenius.proofs.eigenvector.completed_square.Goals as goal

pub returns : goal.returns
returns c = (search square_holds, search square_not_zero)
