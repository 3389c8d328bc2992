-- By whether the value is valid.
use Rattle.work.proofs.counted.Laws.{counted_new, counted_itself}
use Rattle.work.proofs.counted.counted.Goals as goal

pub returns-then-not-is_valid : goal.returns-then-not-is_valid
returns-then-not-is_valid c = search counted_new

pub returns : goal.returns
returns c = search counted_itself
