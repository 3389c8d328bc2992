-- The table is opened by what the value counts as.
use Rattle.cvalue.proofs.Calls.{begin_gives, held_counts_valid}
use Rattle.cvalue.proofs.Counting.{value_valid}
use Rattle.capi.proofs.sessions.yokebean_session_begin_back.Goals as goal

pub begin-answer-requires : goal.begin-answer-requires
begin-answer-requires c = search held_counts_valid

pub work_answers-requires : goal.work_answers-requires
work_answers-requires c = search value_valid

pub returns : goal.returns
returns c = begin_gives _ _ c.counted_value-x.ensures _ _ (c.work_answers.ensures _ c.begin-answer.ensures)
