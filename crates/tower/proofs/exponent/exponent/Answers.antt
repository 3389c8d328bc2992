use Rattle.tower.proofs.exponent.Powers.{powers_start, count_fits, powers_less, powers_found, powers_none}
use Rattle.tower.proofs.exponent.exponent.Goals as goal

pub overflow_add-k : goal.overflow_add-k
overflow_add-k c = search count_fits

pub loop-q-smaller : goal.loop-q-smaller
loop-q-smaller c = search powers_less

pub returns-then-q-n : goal.returns-then-q-n
returns-then-q-n c = (c.loop-q.invariant.positive, search powers_found)

pub returns-else-q-n : goal.returns-else-q-n
returns-else-q-n c = search powers_none

pub loop-q-init : goal.loop-q-init
loop-q-init c = search powers_start
