-- By whether a table is open.
use Rattle.work.proofs.counted.Laws.{looked_closed, looked_open}
use Rattle.work.proofs.counted.looked.Goals as goal

pub returns-in-Closed : goal.returns-in-Closed
returns-in-Closed c = search looked_closed

pub returns-in-Open : goal.returns-in-Open
returns-in-Open c = search looked_open
