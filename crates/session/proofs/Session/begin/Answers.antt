-- The table is opened by what the session counts as.
use Rattle.session.specs.Step.{Step}
use Rattle.session.proofs.Calls.{begin_answers, held_valid}
use Rattle.session.proofs.CountsAs.{valid_is, work_is, count_is}
use Rattle.session.proofs.Session.begin.Goals as goal

pub begin-requires : goal.begin-requires
begin-requires c = search (held_valid, work_is)

pub step_with-requires : goal.step_with-requires
step_with-requires c = search valid_is

pub returns : goal.returns
returns c =
    begin_answers (λ (y : Step). y) _ _ _ (work_is _ _ c.counted-x.ensures) _ (count_is _ _ c.counted-x.ensures) _ (c.step_with.ensures _ c.begin.ensures)
