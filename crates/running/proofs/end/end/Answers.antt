-- By whether a table is open.
use Rattle.running.proofs.end.Laws.{end_closed, end_open}
use Rattle.running.proofs.end.end.Goals as goal

pub returns-in-Closed : goal.returns-in-Closed
returns-in-Closed c = search end_closed

pub returns-in-Open : goal.returns-in-Open
returns-in-Open c = search end_open
