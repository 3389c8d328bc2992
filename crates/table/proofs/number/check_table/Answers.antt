-- The lengths decide first, then the words.
use Rattle.std.proofs.lemmas.Result.{err_from_is_err_and}
use Rattle.table.proofs.number.Laws.{lengths_refused, words_right, words_wrong}
use Rattle.table.proofs.number.check_table.Goals as goal

pub returns-in_err-lengths : goal.returns-in_err-lengths
returns-in_err-lengths c =
    let p = err_from_is_err_and c.from_residual.result c.from_residual.ensures.1 in
    rw (p.1, p.2) (lengths_refused _ _ _ _ c.in_err-lengths.field-0.0 c.in_err-lengths.ensures)

pub returns-then-not-below : goal.returns-then-not-below
returns-then-not-below c = words_wrong _ _ _ _ c.in_ok-lengths.ensures c.if-not-below.ensures

pub returns : goal.returns
returns c = words_right _ _ _ _ c.in_ok-lengths.ensures c.if-not-below.ensures
