-- By the state that the value has.
use Rattle.held.proofs.view.Laws.{valid_empty, valid_loaded, valid_paired}
use Rattle.held.proofs.view.is_valid.Goals as goal

pub returns-in-Empty : goal.returns-in-Empty
returns-in-Empty c = search valid_empty

pub returns-in-Loaded : goal.returns-in-Loaded
returns-in-Loaded c = search valid_loaded

pub returns-in-Paired : goal.returns-in-Paired
returns-in-Paired c = search valid_paired
