-- The square of the power to half the exponent, and X times that where the exponent is odd.
use Rattle.residue.proofs.ring.PowerOfX.{half_holds, raise_even, raise_odd}
use Rattle.residue.proofs.ring.raise.Goals as goal

pub multiply_into-requires-clause-holds : goal.multiply_into-requires-clause-holds
multiply_into-requires-clause-holds c = (search half_holds, search half_holds)

pub returns-then-e-eq0 : goal.returns-then-e-eq0
returns-then-e-eq0 c = search raise_even

pub multiply_times_x_into-requires-clause-holds : goal.multiply_times_x_into-requires-clause-holds
multiply_times_x_into-requires-clause-holds c = (search half_holds, search half_holds)

pub returns : goal.returns
returns c = search raise_odd
