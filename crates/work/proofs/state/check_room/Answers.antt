-- By the number of records.
use Rattle.work.proofs.state.Laws.{is_full, has_room}
use Rattle.work.proofs.state.check_room.Goals as goal

pub returns-then-count : goal.returns-then-count
returns-then-count c = search is_full

pub returns : goal.returns
returns c = search has_room
