-- A valid value counts as its state says, any other as a new one.
use Rattle.held.proofs.view.Laws.{counts_itself, counts_new}
use Rattle.held.proofs.view.counts_as.Goals as goal

pub returns-then-is_valid : goal.returns-then-is_valid
returns-then-is_valid c = search counts_itself

pub returns-else-is_valid : goal.returns-else-is_valid
returns-else-is_valid c = search counts_new
