-- Field by field.
use Rattle.cvalue.specs.Values.{value_with}
use Rattle.cvalue.proofs.answers.with_work.Goals as goal

pub returns : goal.returns
unfolding value_with
returns c = cc
