-- All but the ledger is new.
use Rattle.std.proofs.Common.{refl}
use Rattle.cvalue.proofs.Calls.{clear_gives}
use Rattle.cvalue.proofs.Counting.{value_valid}
use Rattle.capi.proofs.sessions.yokebean_session_clear.Goals as goal

pub work_answers-requires : goal.work_answers-requires
work_answers-requires c = search value_valid

pub returns : goal.returns
returns c = clear_gives _ _ c.new.ensures _ (c.work_answers.ensures (record { number = 0; work = c.new.result }) (refl, refl))
