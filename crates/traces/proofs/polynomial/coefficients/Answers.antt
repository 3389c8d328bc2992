use Rattle.array.proofs.Filling.{holds_first, holds_next}
use Rattle.traces.proofs.polynomial.coefficients.Goals as goal

pub loop-i-init : goal.loop-i-init
loop-i-init c = search holds_first

pub loop-i-preserved : goal.loop-i-preserved
loop-i-preserved c = search holds_next
