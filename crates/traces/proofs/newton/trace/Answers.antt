use Rattle.std.proofs.Common.{rules}
use Rattle.traces.proofs.newton.TraceLoop.{first_below, first_low, word_below, word_low, last_below, last_low, earlier_small, earlier_low, partial_start, partial_turn, partial_few, partial_fits}
use Rattle.traces.proofs.newton.trace.Goals as goal

pub times-sum-requires : goal.times-sum-requires
times-sum-requires c = (search rules, search first_low)

pub loop-j-init : goal.loop-j-init
loop-j-init c = (search rules, search (partial_start, first_below))

pub times-sum-requires-in-loop-j : goal.times-sum-requires-in-loop-j
times-sum-requires-in-loop-j c = (search earlier_low, search word_low)

pub overflow_add-sum : goal.overflow_add-sum
overflow_add-sum c = search (partial_fits, earlier_small, word_below)

pub loop-j-preserved : goal.loop-j-preserved
loop-j-preserved c = (search rules, search (partial_turn, earlier_small, word_below))

pub times-requires : goal.times-requires
times-requires c = (search rules, search last_low)

pub overflow_add-sum-2 : goal.overflow_add-sum-2
overflow_add-sum-2 c = search (partial_fits, last_below)

pub opposite-requires : goal.opposite-requires
opposite-requires c = search (partial_few, last_below)
