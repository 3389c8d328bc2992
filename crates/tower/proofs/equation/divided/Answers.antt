-- `divided`: −w/u[0] for w = (0, u[1], …, u[n − 1]).
use Rattle.std.proofs.Common.{rules}
use Rattle.tower.proofs.equation.FirstWord.{changed_holds, divided_is}
use Rattle.tower.proofs.equation.divided.Goals as goal

pub scale-requires-clause-holds : goal.scale-requires-clause-holds
scale-requires-clause-holds c = search (rules, changed_holds)

pub returns : goal.returns
returns c = search divided_is
