use Rattle.std.proofs.Common.{rules}
use Rattle.array.proofs.Filling.{holds_none, holds_next}
use Rattle.resolvent.proofs.lagrange.ones.Goals as goal

pub loop-i-init : goal.loop-i-init
loop-i-init c = search holds_none

pub loop-i-preserved : goal.loop-i-preserved
loop-i-preserved c = search (rules, holds_next)
