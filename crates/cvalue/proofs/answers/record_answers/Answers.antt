-- Where nothing is refused the value counts as itself and has room.
use Rattle.ledger.proofs.Records.{records_long}
use Rattle.cvalue.proofs.answers.Laws.{record_refused, record_next}
use Rattle.cvalue.proofs.answers.record_answers.Goals as goal

pub returns-in-Err : goal.returns-in-Err
returns-in-Err c = λ y h. record_refused _ y _ h _ c.in-Err.is _ c.into.ensures

pub returns : goal.returns
returns c =
    λ y h. record_next _ _ _ c.in-Ok.is c.requires y h (search (records_long, c.well_formed)) _ c.record_value.ensures _ c.with_work.ensures
