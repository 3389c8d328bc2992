-- The table is closed by what the value counts as, and recorded.
use Rattle.cvalue.proofs.Calls.{end_gives, end_recordable}
use Rattle.work.proofs.Answers.{recorded_number}
use Rattle.capi.proofs.sessions.yokebean_session_end.Goals as goal

pub record_answers-requires : goal.record_answers-requires
record_answers-requires c = end_recordable _ _ c.counted_value-x.ensures _ (recorded_number _ _ c.end.ensures)

pub returns : goal.returns
returns c = end_gives _ _ c.counted_value-x.ensures _ (c.record_answers.ensures _ c.end.ensures)
