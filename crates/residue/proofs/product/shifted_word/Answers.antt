-- The word below and a multiple of T's word; the lowest word has none below.
use Rattle.std.proofs.Common.{rules}
use Rattle.residue.proofs.Step.{word_short}
use Rattle.residue.proofs.product.ShiftLoop.{shift_lowest, shift_lowest_small, shift_fits, shift_is, shift_small}
use Rattle.residue.proofs.product.shifted_word.Goals as goal

pub returns-then-j-eq0 : goal.returns-then-j-eq0
returns-then-j-eq0 c = (search shift_lowest, search shift_lowest_small)

pub times-requires : goal.times-requires
times-requires c = (search rules, search word_short)

pub times-requires-2 : goal.times-requires-2
times-requires-2 c = (search rules, search word_short)

pub overflow_add-result : goal.overflow_add-result
overflow_add-result c = search shift_fits

pub returns : goal.returns
returns c = (search shift_is, search shift_small)
