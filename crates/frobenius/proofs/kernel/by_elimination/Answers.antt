-- `by_elimination`: the solutions of the system are the u with u^p = z·u.
use Rattle.matrix.proofs.FrobeniusMatrix.{frobenius_square}
use Rattle.scalar.proofs.ShiftedMatrix.{zero_holds}
use Rattle.frobenius.proofs.kernel.FrobeniusSystem.{kernel_square, trivial_kernel, kernel_is}
use Rattle.frobenius.proofs.kernel.by_elimination.Goals as goal

pub minus-requires-clause-square : goal.minus-requires-clause-square
minus-requires-clause-square c = search frobenius_square

pub solve-requires-clause-square : goal.solve-requires-clause-square
solve-requires-clause-square c = search kernel_square

pub solve-requires-clause-holds : goal.solve-requires-clause-holds
solve-requires-clause-holds c = search zero_holds

pub returns-in-Unique-clause-kernel : goal.returns-in-Unique-clause-kernel
returns-in-Unique-clause-kernel c = search (trivial_kernel, c.in-Unique.ensures.solution)

pub returns-in-NullVector-clause-kernel : goal.returns-in-NullVector-clause-kernel
returns-in-NullVector-clause-kernel c = search (kernel_is, c.in-NullVector.ensures.solution)
