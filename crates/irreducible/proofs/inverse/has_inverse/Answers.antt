-- `has_inverse`: the system v·w = 1 is regular exactly where w has an inverse.
use Rattle.std.proofs.Common.{rules}
use Rattle.irreducible.proofs.inverse.UnitSystem.{one_holds, regular_decides}
use Rattle.irreducible.proofs.inverse.has_inverse.Goals as goal

pub solve-requires-clause-holds : goal.solve-requires-clause-holds
solve-requires-clause-holds c = search (one_holds, rules)

pub returns-in-Unique : goal.returns-in-Unique
returns-in-Unique c = search (regular_decides, c.in-Unique.ensures.solution)

pub returns-in_default : goal.returns-in_default
returns-in_default c = search (regular_decides, c.in_default.ensures.solution)
