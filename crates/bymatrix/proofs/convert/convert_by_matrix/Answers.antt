-- A refusal leaves the output list alone; else the products are written.
use Rattle.bymatrix.proofs.convert.Laws.{image_new, image_kept}
use Rattle.bymatrix.proofs.convert.convert_by_matrix.Goals as goal

pub returns-in_err-check-clause-out_after : goal.returns-in_err-check-clause-out_after
returns-in_err-check-clause-out_after c = image_kept _ _ _ _ _ _ c.in_err-check.ensures

pub returns-clause-out_after : goal.returns-clause-out_after
returns-clause-out_after c = image_new _ _ _ _ _ c.in_ok-check.ensures _ c.convert_table.ensures
