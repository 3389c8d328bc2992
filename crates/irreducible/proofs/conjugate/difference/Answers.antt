-- `difference` subtracts X from its conjugate.
use Rattle.irreducible.proofs.conjugate.Iteration.{x_holds, conjugate_of_x_holds, difference_made}
use Rattle.irreducible.proofs.conjugate.difference.Goals as goal

pub subtract-requires-clause-holds : goal.subtract-requires-clause-holds
subtract-requires-clause-holds c = (search conjugate_of_x_holds, search x_holds)

pub returns : goal.returns
returns c = search difference_made
