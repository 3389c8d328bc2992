-- By the answer, and by what the session counts as.
use Rattle.session.proofs.Answer.{step_refused, step_new, step_next}
use Rattle.session.proofs.Session.step_with.Goals as goal

pub returns-in-Ok : goal.returns-in-Ok
returns-in-Ok c = λ y h. step_next _ y _ h _ c.in-Ok.is _ c.requires c.if-valid.true

pub returns-in-Ok-2 : goal.returns-in-Ok-2
returns-in-Ok-2 c = λ y h. step_new _ y _ h _ c.in-Ok-2.is _ c.requires c.if-valid.false _ c.new.ensures

pub returns-in-Err : goal.returns-in-Err
returns-in-Err c = λ y h. step_refused _ y _ h _ c.in-Err.is
