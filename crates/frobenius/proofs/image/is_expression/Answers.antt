-- `is_expression`: the product of the matrix with the polynomial is its value.
use Rattle.frobenius.proofs.image.PowerSystem.{guessed}
use Rattle.frobenius.proofs.image.is_expression.Goals as goal

pub returns : goal.returns
returns c = search guessed
