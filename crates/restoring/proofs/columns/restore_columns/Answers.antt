use Rattle.std.proofs.Common.{rules}
use Rattle.restoring.proofs.columns.Across.{done_none, w_positive, w_small}
use Rattle.restoring.proofs.columns.restore_columns.Goals as goal

pub overflow_sub-j-end : goal.overflow_sub-j-end
overflow_sub-j-end c = search w_small

pub nonzero_div-w : goal.nonzero_div-w
nonzero_div-w c = search w_positive

pub loop-j-init : goal.loop-j-init
loop-j-init c = (search w_positive, search w_small, search rules, search done_none)
