-- Field by field.
use Rattle.cvalue.specs.Values.{held_value}
use Rattle.cvalue.proofs.holdings.held_value.Goals as goal

pub returns : goal.returns
unfolding held_value
returns c = cc
