-- By the number of records, by what is held, and by the open table.
use Rattle.work.proofs.counted.Laws.{past_limit, held_refused, closed_decides, open_decides}
use Rattle.work.proofs.counted.is_valid.Goals as goal

pub returns-then-count : goal.returns-then-count
returns-then-count c = search past_limit

pub returns-then-not-is_valid : goal.returns-then-not-is_valid
returns-then-not-is_valid c = search held_refused

pub returns-then-not-is_open : goal.returns-then-not-is_open
returns-then-not-is_open c = search closed_decides

pub returns : goal.returns
returns c = search open_decides
