-- The square of the power to half the exponent, and u times that where the exponent is odd.
use Rattle.std.proofs.Common.{rules}
use Rattle.residue.proofs.Power.{power_holds, square_holds, power_even_array, power_odd_array}
use Rattle.residue.proofs.ring.double.Goals as goal

pub multiply_into-requires-clause-holds : goal.multiply_into-requires-clause-holds
multiply_into-requires-clause-holds c = (search power_holds, search power_holds)

pub returns-then-e-eq0 : goal.returns-then-e-eq0
returns-then-e-eq0 c = search power_even_array

pub multiply_into-requires-2-clause-holds : goal.multiply_into-requires-2-clause-holds
multiply_into-requires-2-clause-holds c = (search power_holds, search power_holds)

pub multiply_into-requires-3-clause-holds : goal.multiply_into-requires-3-clause-holds
multiply_into-requires-3-clause-holds c =
    (search rules, square_holds _ _ _ _ _ _ _ c.multiply_into-2.ensures c.requires.holds.1 (search rules) c.args.t.now.below c.requires.holds.0)

pub returns : goal.returns
returns c = search power_odd_array
