-- `raised` is a·α^(p − 1).
use Rattle.std.proofs.Common.{rules}
use Rattle.tower.proofs.generator.ArrayRounds.{power_holds, raised_is, raised_holds}
use Rattle.tower.proofs.generator.raised.Goals as goal

pub multiply-requires : goal.multiply-requires
multiply-requires c = (search rules, search power_holds)

pub returns-clause-value : goal.returns-clause-value
returns-clause-value c = search raised_is

pub returns-clause-holds : goal.returns-clause-holds
returns-clause-holds c = search raised_holds
