-- A refusal leaves the output list alone; else the table is restored.
use Rattle.restoring.proofs.restore.Laws.{stored_whole, image_new, image_kept}
use Rattle.restoring.proofs.restore.restore.Goals as goal

pub restore_columns-requires : goal.restore_columns-requires
restore_columns-requires c = stored_whole _ _ _ c.in_ok-check_differences.ensures

pub returns-in_err-check_differences-clause-out_after : goal.returns-in_err-check_differences-clause-out_after
returns-in_err-check_differences-clause-out_after c = image_kept _ _ _ _ c.in_err-check_differences.ensures

pub returns-clause-out_after : goal.returns-clause-out_after
returns-clause-out_after c = image_new _ _ _ c.in_ok-check_differences.ensures _ c.restore_columns.ensures
