-- By whether the value is made.
use Rattle.cvalue.proofs.sessions.Laws.{counts_unmade, counts_made}
use Rattle.cvalue.proofs.sessions.counted_value.Goals as goal

pub returns-then-not-is_made : goal.returns-then-not-is_made
returns-then-not-is_made c = search counts_unmade

pub returns : goal.returns
returns c = search counts_made
