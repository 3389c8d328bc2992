-- Each array holds its list.
use Rattle.held.specs.Held.{paired_held}
use Rattle.held.proofs.value.Laws.{words_fit}
use Rattle.held.proofs.value.paired.Goals as goal

pub array-requires : goal.array-requires
array-requires c = search words_fit

pub array-requires-2 : goal.array-requires-2
array-requires-2 c = search words_fit

pub array-requires-3 : goal.array-requires-3
array-requires-3 c = search words_fit

pub array-requires-4 : goal.array-requires-4
array-requires-4 c = search words_fit

pub returns : goal.returns
unfolding paired_held
returns c = cc
