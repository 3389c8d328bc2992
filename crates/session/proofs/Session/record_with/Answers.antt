-- Where nothing is refused the session counts as itself, and the ledger has room.
use Rattle.session.proofs.Answer.{record_refused, record_next}
use Rattle.session.proofs.Session.record_with.Goals as goal

pub returns-in-Ok : goal.returns-in-Ok
returns-in-Ok c = λ y h. record_next _ y _ h _ c.in-Ok.is c.requires _ c.add-ledger.ensures

pub returns-in-Err : goal.returns-in-Err
returns-in-Err c = λ y h. record_refused _ y _ h _ c.in-Err.is
