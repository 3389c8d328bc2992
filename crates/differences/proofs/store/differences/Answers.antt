-- A refusal leaves the output list alone; else the first words are kept, and from the later ones the earlier are subtracted.
use Rattle.differences.proofs.Given.{stored_room}
use Rattle.differences.proofs.store.Laws.{image_new, image_kept}
use Rattle.differences.proofs.store.differences.Goals as goal

pub keep_first-requires : goal.keep_first-requires
keep_first-requires c = stored_room _ _ _ c.in_ok-check_differences.ensures

pub returns-in_err-check_differences-clause-out_after : goal.returns-in_err-check_differences-clause-out_after
returns-in_err-check_differences-clause-out_after c = image_kept _ _ _ _ c.in_err-check_differences.ensures

pub returns-clause-out_after : goal.returns-clause-out_after
returns-clause-out_after c = image_new _ _ _ c.in_ok-check_differences.ensures _ c.subtract_earlier.ensures
