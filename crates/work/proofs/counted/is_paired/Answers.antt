-- By the state, which a valid value counts as.
use Rattle.std.proofs.Common.{◌∙◌}
use Rattle.work.proofs.counted.Laws.{paired_state}
use Rattle.work.proofs.counted.is_paired.Goals as goal

pub returns : goal.returns
returns c = c.eq.ensures ∙ paired_state c.args.held c.requires
