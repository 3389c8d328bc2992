-- By what the waiting session counts as.
use mathlib.Core.Logic.{inl, inr}
use Rattle.running.proofs.end.Laws.{dropped, paired_current}
use Rattle.running.proofs.end.held_after.Goals as goal

pub returns-in-Empty : goal.returns-in-Empty
returns-in-Empty c = dropped _ _ _ c.counts_as.ensures (inl c.in-Empty.is)

pub returns-in-Loaded : goal.returns-in-Loaded
returns-in-Loaded c = dropped _ _ _ c.counts_as.ensures (inr c.in-Loaded.is)

pub returns-in-Paired : goal.returns-in-Paired
returns-in-Paired c = search paired_current
