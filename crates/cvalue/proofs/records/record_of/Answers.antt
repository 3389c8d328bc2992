-- Field by field.
use Rattle.cvalue.proofs.records.Laws.{record_made}
use Rattle.cvalue.proofs.records.record_of.Goals as goal

pub returns : goal.returns
returns c = search record_made
