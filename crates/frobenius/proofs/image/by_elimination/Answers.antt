-- `by_elimination`: the system is regular where the powers are independent.
use Rattle.frobenius.proofs.image.PowerSystem.{right_side, solved}
use Rattle.frobenius.proofs.image.by_elimination.Goals as goal

pub solve-requires-clause-holds : goal.solve-requires-clause-holds
solve-requires-clause-holds c = search right_side

pub returns-in-Unique : goal.returns-in-Unique
returns-in-Unique c = search (solved, c.in-Unique.ensures.solution)

pub returns-in-Unique-2 : goal.returns-in-Unique-2
returns-in-Unique-2 c = search (solved, c.in-Unique.ensures.solution)
