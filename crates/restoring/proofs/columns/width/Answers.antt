-- By the number of columns.
use Rattle.restoring.proofs.columns.Some.{width_one, width_four, width_eight}
use Rattle.restoring.proofs.columns.width.Goals as goal

pub returns-in-0-to-3 : goal.returns-in-0-to-3
returns-in-0-to-3 c = search width_one

pub returns-in-4-to-7 : goal.returns-in-4-to-7
returns-in-4-to-7 c = search width_four

pub returns-in_default : goal.returns-in_default
returns-in_default c = search width_eight
