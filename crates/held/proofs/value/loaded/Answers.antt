-- Each array holds its list.
use Rattle.held.specs.Held.{loaded_held}
use Rattle.held.proofs.value.Laws.{words_fit}
use Rattle.held.proofs.value.loaded.Goals as goal

pub array-requires : goal.array-requires
array-requires c = search words_fit

pub array-requires-2 : goal.array-requires-2
array-requires-2 c = search words_fit

pub returns : goal.returns
unfolding loaded_held
returns c = cc
