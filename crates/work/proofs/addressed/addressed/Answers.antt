-- By whether a table is open.
use Rattle.work.proofs.addressed.Laws.{current_addressed, waiting_addressed}
use Rattle.work.proofs.addressed.addressed.Goals as goal

pub returns-in-Closed : goal.returns-in-Closed
returns-in-Closed c = search current_addressed

pub returns-in-Open : goal.returns-in-Open
returns-in-Open c = search waiting_addressed
