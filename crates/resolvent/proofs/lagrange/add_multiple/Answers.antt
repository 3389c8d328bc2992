use Rattle.std.proofs.Common.{rules}
use Rattle.resolvent.proofs.lagrange.AddLoop.{word_low, word_fits, add_turn}
use Rattle.resolvent.proofs.lagrange.add_multiple.Goals as goal

pub times-requires : goal.times-requires
times-requires c = (search rules, search word_low)

pub overflow_add-sums : goal.overflow_add-sums
overflow_add-sums c = search word_fits

pub loop-i-preserved : goal.loop-i-preserved
loop-i-preserved c = search add_turn
