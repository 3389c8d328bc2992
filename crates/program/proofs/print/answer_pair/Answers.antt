-- `answer::answer_pair` hands over the four parts of the words.
use Rattle.std.proofs.Common.{rules}
use Rattle.answer.proofs.Parts.{part_first, part_second, part_third, part_fourth, slices_given}
use Rattle.program.proofs.print.answer_pair.Goals as goal

pub print_pair-requires : goal.print_pair-requires
print_pair-requires c = (search rules, search slices_given)

pub returns : goal.returns
returns c = rw (part_first, part_second, part_third, part_fourth) c.print_pair.ensures
