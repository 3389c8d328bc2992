-- Both lists are tested.
use Rattle.held.proofs.view.Laws.{below_both}
use Rattle.held.proofs.view.both_below.Goals as goal

pub returns : goal.returns
returns c = below_both _ _ _ _ c.front.ensures c.front-2.ensures c.have_words.ensures
