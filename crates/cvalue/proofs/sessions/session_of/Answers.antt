-- A value that is made otherwise counts as a new session; of any other, field by field.
use Rattle.cvalue.proofs.sessions.Laws.{unmade_session, records_few, session_made}
use Rattle.cvalue.proofs.sessions.session_of.Goals as goal

pub returns-then-not-is_made : goal.returns-then-not-is_made
returns-then-not-is_made c = search unmade_session

pub records_of-records-requires : goal.records_of-records-requires
records_of-records-requires c = search records_few

pub returns : goal.returns
returns c = search session_made
