-- `job::find_in` hands the finder the first two parts of the words.
use Rattle.answer.proofs.Parts.{part_first, part_second}
use Rattle.answer.proofs.job.find_in.Goals as goal

pub returns-clause-value : goal.returns-clause-value
returns-clause-value c = rw (part_first, part_second) c.find.ensures.value

pub returns-clause-s_after : goal.returns-clause-s_after
returns-clause-s_after c = rw (part_first, part_second) c.find.ensures.s_after

pub returns-clause-r_after : goal.returns-clause-r_after
returns-clause-r_after c = rw (part_first, part_second) c.find.ensures.r_after
