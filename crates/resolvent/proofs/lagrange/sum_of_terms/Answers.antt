use Rattle.std.proofs.Common.{rules}
use Rattle.resolvent.proofs.lagrange.TermLoop.{first_holds, first_sums, next_holds, next_whole}
use Rattle.resolvent.proofs.lagrange.sum_of_terms.Goals as goal

pub loop-j-init : goal.loop-j-init
loop-j-init c = (search rules, search first_holds, search first_sums)

pub add_multiple-requires-clause-holds : goal.add_multiple-requires-clause-holds
add_multiple-requires-clause-holds c = (search next_whole, search rules)

pub loop-j-preserved : goal.loop-j-preserved
loop-j-preserved c = (search rules, search next_holds, search rules)
