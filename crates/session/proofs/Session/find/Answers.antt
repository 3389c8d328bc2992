-- The answer of the session that the call acts on.
use Rattle.session.specs.Step.{Step}
use Rattle.session.proofs.Calls.{find_answers}
use Rattle.session.proofs.CountsAs.{valid_is, work_is}
use Rattle.session.proofs.Session.find.Goals as goal

pub step_with-requires : goal.step_with-requires
step_with-requires c = search valid_is

pub returns : goal.returns
returns c =
    find_answers (λ (y : Step). y) _ _ _ (work_is _ _ c.counted-x.ensures) _ c.addressed.ensures
    (c.step_with.ensures _ (c.placed.ensures _ c.find-held.ensures))
