use Rattle.held.proofs.value.Laws.{filled}
use Rattle.held.proofs.value.array.Goals as goal

pub returns : goal.returns
returns c = filled _ _ c.copy_from_slice.ensures.after
