-- Field by field.
use Rattle.cvalue.proofs.records.Laws.{value_made}
use Rattle.cvalue.proofs.records.record_value.Goals as goal

pub returns : goal.returns
returns c = search value_made
