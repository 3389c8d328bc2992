-- `artin_schreier`: the kernel of the system with a in column 0.
use Rattle.scalar.proofs.ShiftedMatrix.{zero_holds}
use Rattle.tower.proofs.equation.Answer.{system_square, regular_answer, fixed_answer, solved_answer}
use Rattle.tower.proofs.equation.artin_schreier.Goals as goal

pub solve-requires-clause-square : goal.solve-requires-clause-square
solve-requires-clause-square c = search system_square

pub solve-requires-clause-holds : goal.solve-requires-clause-holds
solve-requires-clause-holds c = search zero_holds

pub returns-in-NullVector : goal.returns-in-NullVector
returns-in-NullVector c = search (solved_answer, c.in-NullVector.ensures.solution)

pub returns-in_default : goal.returns-in_default
returns-in_default c = search (fixed_answer, c.in-NullVector.ensures.solution)

pub returns-in_default-2 : goal.returns-in_default-2
returns-in_default-2 c = search (regular_answer, c.in_default.ensures.solution)
