-- Where nothing of the models is refused, the words of S and R decide.
use Rattle.held.proofs.view.Laws.{models_fail, models_fit, pair_decides}
use Rattle.held.proofs.view.pair_valid.Goals as goal

pub both_below-requires : goal.both_below-requires
both_below-requires c = search models_fit

pub returns-then-models_valid : goal.returns-then-models_valid
returns-then-models_valid c = search pair_decides

pub returns-else-models_valid : goal.returns-else-models_valid
returns-else-models_valid c = search models_fail
