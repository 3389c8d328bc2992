-- By whether a table is open.
use Rattle.work.proofs.addressed.Laws.{current_replaced, waiting_replaced}
use Rattle.work.proofs.addressed.with_addressed.Goals as goal

pub returns-in-Closed : goal.returns-in-Closed
returns-in-Closed c = search current_replaced

pub returns-in-Open : goal.returns-in-Open
returns-in-Open c = search waiting_replaced
