use Rattle.modular.proofs.prime.FirstDivisor.{number_positive, divisor_here, divisor_later, divisor_none}
use Rattle.modular.proofs.prime.first_divisor.Goals as goal

pub nonzero_rem-p : goal.nonzero_rem-p
nonzero_rem-p c = search number_positive

pub returns-then-p-q-eq0 : goal.returns-then-p-q-eq0
returns-then-p-q-eq0 c = search divisor_here

pub loop-q-preserved : goal.loop-q-preserved
loop-q-preserved c = search divisor_later

pub returns : goal.returns
returns c = search divisor_none
