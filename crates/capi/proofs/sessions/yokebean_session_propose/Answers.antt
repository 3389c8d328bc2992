-- The answer of the session that the call acts on.
use Rattle.cvalue.proofs.Calls.{propose_gives}
use Rattle.cvalue.proofs.Counting.{value_valid}
use Rattle.capi.proofs.sessions.yokebean_session_propose.Goals as goal

pub work_answers-requires : goal.work_answers-requires
work_answers-requires c = search value_valid

pub returns : goal.returns
returns c = propose_gives _ _ c.counted_value-x.ensures _ _ c.addressed.ensures _ _ (c.work_answers.ensures _ (c.placed.ensures _ c.propose-held.ensures))
