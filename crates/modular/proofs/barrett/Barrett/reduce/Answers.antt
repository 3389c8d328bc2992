-- A number below 2·p that is x modulo p, less p where it is p or more.
use Rattle.std.proofs.Common.{arith}
use Rattle.modular.proofs.barrett.Reciprocal.{once_more}
use Rattle.modular.proofs.barrett.Barrett.reduce.Goals as goal

pub returns-else-y-p : goal.returns-else-y-p
returns-else-y-p c = (search once_more, omega arith)
