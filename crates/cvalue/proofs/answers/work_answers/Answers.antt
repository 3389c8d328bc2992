-- By the answer, and by what the value counts as.
use Rattle.ledger.proofs.Records.{records_long}
use Rattle.cvalue.proofs.answers.Laws.{step_refused, step_new, step_next}
use Rattle.cvalue.proofs.answers.work_answers.Goals as goal

pub returns-in-Ok : goal.returns-in-Ok
returns-in-Ok c =
    λ y h. step_next _ y _ h _ c.in-Ok.is _ c.requires _ c.if-valid.true (search (records_long, c.well_formed)) c.with_work.ensures

pub returns-in-Ok-2 : goal.returns-in-Ok-2
returns-in-Ok-2 c = λ y h. step_new _ y _ h _ c.in-Ok-2.is _ c.requires _ c.if-valid.false c.with_work-in-Ok-2.ensures

pub returns-in-Err : goal.returns-in-Err
returns-in-Err c = λ y h. step_refused _ y _ h _ c.in-Err.is _ c.into.ensures
