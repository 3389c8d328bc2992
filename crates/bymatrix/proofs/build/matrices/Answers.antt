-- A refusal leaves both lists alone; else each gets its matrix.
use Rattle.std.proofs.lemmas.Result.{err_from_is_err_and}
use Rattle.bymatrix.proofs.build.Laws.{refusal_is, forward_kept, back_kept, success_is, forward_sizes, back_sizes, forward_words, back_words, forward_new, back_new}
use Rattle.bymatrix.proofs.build.matrices.Goals as goal

pub returns-in_err-check_with_output-clause-value : goal.returns-in_err-check_with_output-clause-value
returns-in_err-check_with_output-clause-value c =
    let p = err_from_is_err_and c.from_residual.result c.from_residual.ensures.1 in
    rw (p.1, p.2) (refusal_is _ _ _ _ _ _ _ _ _ _ c.is_square.ensures c.is_square-2.ensures _ c.in_err-check_with_output.ensures)

pub returns-in_err-check_with_output-clause-forward_after : goal.returns-in_err-check_with_output-clause-forward_after
returns-in_err-check_with_output-clause-forward_after c =
    forward_kept _ _ _ _ _ _ _ _ _ _ c.is_square.ensures c.is_square-2.ensures _ c.in_err-check_with_output.ensures

pub returns-in_err-check_with_output-clause-back_after : goal.returns-in_err-check_with_output-clause-back_after
returns-in_err-check_with_output-clause-back_after c =
    back_kept _ _ _ _ _ _ _ _ _ _ c.is_square.ensures c.is_square-2.ensures _ c.in_err-check_with_output.ensures

pub write_matrix-requires-clause-sizes : goal.write_matrix-requires-clause-sizes
write_matrix-requires-clause-sizes c = forward_sizes _ _ _ _ _ _ _ _ _ _ c.is_square.ensures c.is_square-2.ensures c.in_ok-check_with_output.ensures

pub write_matrix-requires-clause-words : goal.write_matrix-requires-clause-words
write_matrix-requires-clause-words c = forward_words _ _ _ _ _ _ _ _ _ _ c.is_square.ensures c.is_square-2.ensures c.in_ok-check_with_output.ensures

pub write_matrix-requires-2-clause-sizes : goal.write_matrix-requires-2-clause-sizes
write_matrix-requires-2-clause-sizes c = back_sizes _ _ _ _ _ _ _ _ _ _ c.is_square.ensures c.is_square-2.ensures c.in_ok-check_with_output.ensures

pub write_matrix-requires-2-clause-words : goal.write_matrix-requires-2-clause-words
write_matrix-requires-2-clause-words c = back_words _ _ _ _ _ _ _ _ _ _ c.is_square.ensures c.is_square-2.ensures c.in_ok-check_with_output.ensures

pub returns-clause-value : goal.returns-clause-value
returns-clause-value c = success_is _ _ _ _ _ _ _ _ _ _ c.is_square.ensures c.is_square-2.ensures c.in_ok-check_with_output.ensures

pub returns-clause-forward_after : goal.returns-clause-forward_after
returns-clause-forward_after c =
    forward_new _ _ _ _ _ _ _ _ _ _ c.is_square.ensures c.is_square-2.ensures c.in_ok-check_with_output.ensures _ c.write_matrix.ensures

pub returns-clause-back_after : goal.returns-clause-back_after
returns-clause-back_after c =
    back_new _ _ _ _ _ _ _ _ _ _ c.is_square.ensures c.is_square-2.ensures c.in_ok-check_with_output.ensures _ c.write_matrix-2.ensures
