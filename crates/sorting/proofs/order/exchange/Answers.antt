-- The row and what is carried change places where what is carried is lower.
use Rattle.sorting.proofs.order.LowerFirst.{row_taken, row_carried, row_stays, carried_stays}
use Rattle.sorting.proofs.order.exchange.Goals as goal

pub returns-then-lower-clause-row_after : goal.returns-then-lower-clause-row_after
returns-then-lower-clause-row_after c = search row_taken

pub returns-then-lower-clause-u_after : goal.returns-then-lower-clause-u_after
returns-then-lower-clause-u_after c = search row_carried

pub returns-else-lower-clause-row_after : goal.returns-else-lower-clause-row_after
returns-else-lower-clause-row_after c = search row_stays

pub returns-else-lower-clause-u_after : goal.returns-else-lower-clause-u_after
returns-else-lower-clause-u_after c = search carried_stays
