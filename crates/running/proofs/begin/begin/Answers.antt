-- By where the session is, and by the number of records.
use Rattle.std.proofs.Common.{refl, sym, rules}
use Rattle.refusal.proofs.Refused.{refused}
use Rattle.work.proofs.Answers.{work_refused}
use Rattle.running.specs.Running.{begin}
use Rattle.running.proofs.begin.Laws.{state_refused, room_decides, opens}
use Rattle.running.proofs.begin.begin.Goals as goal

pub returns-in_err-check_state : goal.returns-in_err-check_state
unfolding begin
returns-in_err-check_state c = work_refused _ _ _ c.from_residual.ensures.1 (state_refused _ _ _ c.in_err-check_state.ensures (refused _))

pub returns-in_err-check_room : goal.returns-in_err-check_room
unfolding begin
returns-in_err-check_room c =
    work_refused _ _ _ c.from_residual-in_err-check_room.ensures.1 (room_decides _ _ 0 c.in_ok-check_state.ensures refl _ c.in_err-check_room.ensures)

pub returns : goal.returns
returns c = opens _ _ _ (sym (room_decides _ _ 0 c.in_ok-check_state.ensures refl 0 c.in_ok-check_room.ensures)) _ (search rules)
