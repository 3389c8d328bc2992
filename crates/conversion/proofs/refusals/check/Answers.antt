-- By where the session is, by the table to convert and by the number of records.
use Rattle.std.proofs.Common.{refl}
use Rattle.refusal.proofs.Refused.{refused}
use Rattle.work.proofs.Answers.{number_refused}
use Rattle.conversion.proofs.Numbers.{state_refused, state_positive, table_refused, room_decides}
use Rattle.conversion.proofs.refusals.check.Goals as goal

pub returns-in_err-check_state : goal.returns-in_err-check_state
returns-in_err-check_state c =
    number_refused _ _ _ c.from_residual.ensures.1 (state_refused _ _ _ _ _ c.in_err-check_state.ensures (refused _))

pub check_table-requires : goal.check_table-requires
check_table-requires c = state_positive _ c.args.count c.args.table.now c.args.out.now 0 c.in_ok-check_state.ensures refl

pub returns-in_err-check_table : goal.returns-in_err-check_table
returns-in_err-check_table c =
    number_refused _ _ _ c.from_residual-in_err-check_table.ensures.1
    (table_refused _ _ _ _ 0 c.in_ok-check_state.ensures refl _ c.in_err-check_table.ensures (refused _))

pub returns : goal.returns
returns c =
    room_decides _ _ _ _ 0 c.in_ok-check_state.ensures refl 0 c.in_ok-check_table.ensures refl _ c.check_room.ensures
