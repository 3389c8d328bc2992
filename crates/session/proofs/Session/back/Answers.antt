-- The conversion by what the session counts as, and its record.
use Rattle.work.proofs.Answers.{recorded_number}
use Rattle.session.specs.Step.{Step}
use Rattle.session.proofs.Calls.{convert_answers, convert_writes, held_valid, convert_room}
use Rattle.session.proofs.CountsAs.{work_is, count_is}
use Rattle.session.proofs.Session.back.Goals as goal

pub convert-requires : goal.convert-requires
convert-requires c = search (held_valid, work_is)

pub record_with-requires : goal.record_with-requires
record_with-requires c =
    convert_room _ _ (work_is _ _ c.counted-x.ensures) _ (count_is _ _ c.counted-x.ensures) _ _ _ _ (recorded_number _ _ c.convert.ensures.value)

pub returns-clause-value : goal.returns-clause-value
returns-clause-value c =
    convert_answers (λ (y : Step). y) _ _ _ (work_is _ _ c.counted-x.ensures) _ (count_is _ _ c.counted-x.ensures) _ _ _
    (c.record_with.ensures _ c.convert.ensures.value)

pub returns-clause-out_after : goal.returns-clause-out_after
returns-clause-out_after c = search (convert_writes, work_is, count_is)
