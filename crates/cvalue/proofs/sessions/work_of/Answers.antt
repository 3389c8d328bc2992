-- Field by field.
use Rattle.cvalue.specs.Values.{work_of}
use Rattle.cvalue.proofs.sessions.work_of.Goals as goal

pub returns : goal.returns
unfolding work_of
returns c = cc
