-- Field by field.
use Rattle.cvalue.specs.Values.{held_of}
use Rattle.cvalue.proofs.holdings.held_of.Goals as goal

pub returns : goal.returns
unfolding held_of
returns c = cc
