-- By the state of what is held, and the open table.
use Rattle.work.proofs.state.Laws.{state_empty, state_loaded, state_open, state_closed}
use Rattle.work.proofs.state.check_state.Goals as goal

pub returns-in-Empty : goal.returns-in-Empty
returns-in-Empty c = search state_empty

pub returns-in-Loaded : goal.returns-in-Loaded
returns-in-Loaded c = search state_loaded

pub returns-then-is_open : goal.returns-then-is_open
returns-then-is_open c = search state_open

pub returns-else-is_open : goal.returns-else-is_open
returns-else-is_open c = search state_closed
