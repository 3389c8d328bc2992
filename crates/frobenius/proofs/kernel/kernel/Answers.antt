-- `kernel`: the resolvent that passes the test is in it.
use Rattle.std.proofs.Common.{rules}
use Rattle.matrix.proofs.FrobeniusMatrix.{frobenius_square}
use Rattle.frobenius.proofs.kernel.Resolvent.{stretched_kernel}
use Rattle.frobenius.proofs.kernel.kernel.Goals as goal

pub resolvent-v-requires-clause-square : goal.resolvent-v-requires-clause-square
resolvent-v-requires-clause-square c = search frobenius_square

pub is_eigenvector-requires-clause-square : goal.is_eigenvector-requires-clause-square
is_eigenvector-requires-clause-square c = (search frobenius_square, search rules)

pub returns-then-is_eigenvector-clause-kernel : goal.returns-then-is_eigenvector-clause-kernel
returns-then-is_eigenvector-clause-kernel c = search (stretched_kernel, c.is_eigenvector.ensures c.if-is_eigenvector.true)
