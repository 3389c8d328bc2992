-- The conversion by what the value counts as, and its record.
use Rattle.cvalue.proofs.Calls.{convert_gives, convert_fills, convert_recordable, held_counts_valid}
use Rattle.work.proofs.Answers.{recorded_number}
use Rattle.capi.proofs.sessions.yokebean_session_back.Goals as goal

pub convert-answer-requires : goal.convert-answer-requires
convert-answer-requires c = search held_counts_valid

pub record_answers-requires : goal.record_answers-requires
record_answers-requires c = convert_recordable _ _ c.counted_value-x.ensures _ _ _ _ (recorded_number _ _ c.convert-answer.ensures.value)

pub returns-clause-value : goal.returns-clause-value
returns-clause-value c = convert_gives _ _ c.counted_value-x.ensures _ _ _ _ (c.record_answers.ensures _ c.convert-answer.ensures.value)

pub returns-clause-out_after : goal.returns-clause-out_after
returns-clause-out_after c = search convert_fills
