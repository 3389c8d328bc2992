-- The table is closed by what the session counts as, and recorded.
use Rattle.work.proofs.Answers.{recorded_number}
use Rattle.session.specs.Step.{Step}
use Rattle.session.proofs.Calls.{end_answers, end_room}
use Rattle.session.proofs.CountsAs.{work_is}
use Rattle.session.proofs.Session.end.Goals as goal

pub record_with-requires : goal.record_with-requires
record_with-requires c = end_room _ _ (work_is _ _ c.counted-x.ensures) _ (recorded_number _ _ c.end.ensures)

pub returns : goal.returns
returns c = end_answers (λ (y : Step). y) _ _ _ (work_is _ _ c.counted-x.ensures) (c.record_with.ensures _ c.end.ensures)
