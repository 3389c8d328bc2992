-- By the residues that are left, and by the part.
use Rattle.running.proofs.feed.Laws.{part_above, part_table}
use Rattle.running.proofs.feed.check_part.Goals as goal

pub returns-then-residues-left : goal.returns-then-residues-left
returns-then-residues-left c = search part_above

pub returns : goal.returns
returns c = search part_table
