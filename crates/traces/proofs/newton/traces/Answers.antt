use Rattle.std.proofs.Common.{rules}
use Rattle.array.proofs.Filling.{holds_none, holds_next}
use Rattle.traces.proofs.newton.TraceLoop.{opposite_below}
use Rattle.traces.proofs.newton.traces.Goals as goal

pub loop-k-init : goal.loop-k-init
loop-k-init c = (search rules, search holds_none)

pub loop-k-preserved : goal.loop-k-preserved
loop-k-preserved c = (search rules, search (holds_next, opposite_below))
