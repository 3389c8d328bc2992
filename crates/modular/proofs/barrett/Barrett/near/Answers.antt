-- The quotient that is subtracted is x / p or one less.
use Rattle.modular.proofs.barrett.Reciprocal.{shift_fits, near_below, near_small, near_mod}
use Rattle.modular.proofs.barrett.Barrett.near.Goals as goal

pub overflow_shr-x : goal.overflow_shr-x
overflow_shr-x c = search shift_fits

pub overflow_sub-result : goal.overflow_sub-result
overflow_sub-result c = search near_below

pub returns : goal.returns
returns c = (search near_small, search near_mod)
