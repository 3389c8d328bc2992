-- `write_pair`: the lists lent change only where there is a pair.
use Rattle.finder.proofs.find.FindAnswer.{out_short, forward_stores, forward_stored, backward_stores, backward_stored}
use Rattle.finder.proofs.find.write_pair.Goals as goal

pub store-requires : goal.store-requires
store-requires c = (search out_short, search (forward_stores, c.in_ok-pair.ensures.pair))

pub store-requires-2 : goal.store-requires-2
store-requires-2 c = (search out_short, search (backward_stores, c.in_ok-pair.ensures.pair))

pub returns-clause-s_after : goal.returns-clause-s_after
returns-clause-s_after c = search (forward_stored, c.in_ok-pair.ensures.pair)

pub returns-clause-r_after : goal.returns-clause-r_after
returns-clause-r_after c = search (backward_stored, c.in_ok-pair.ensures.pair)
