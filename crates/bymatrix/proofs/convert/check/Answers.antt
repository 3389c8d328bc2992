-- 1, 2 and 3 decide first, then the table's lengths, then the words.
use Rattle.std.proofs.Common.{[], ◌∷◌}
use Rattle.std.proofs.lemmas.Result.{err_from_is_err_and}
use Rattle.refusal.proofs.Tests.{words_tested}
use Rattle.bymatrix.proofs.convert.Laws.{model_refused, degree_positive, lengths_refused, words_below, words_above}
use Rattle.bymatrix.proofs.convert.check.Goals as goal

pub returns-in_err-sent_with : goal.returns-in_err-sent_with
returns-in_err-sent_with c =
    let p = err_from_is_err_and c.from_residual.result c.from_residual.ensures.1 in
    rw (p.1, p.2) (model_refused _ _ _ _ _ _ c.is_square.ensures _ c.in_err-sent_with.ensures)

pub lengths-requires : goal.lengths-requires
lengths-requires c = degree_positive _ _ _ c.args.table.now c.args.out.now _ c.is_square.ensures c.in_ok-sent_with.ensures

pub returns-in_err-lengths : goal.returns-in_err-lengths
returns-in_err-lengths c =
    let p = err_from_is_err_and c.from_residual-in_err-lengths.result c.from_residual-in_err-lengths.ensures.1 in
    rw (p.1, p.2) (lengths_refused _ _ _ _ _ _ c.is_square.ensures c.in_ok-sent_with.ensures _ c.in_err-lengths.ensures)

pub returns-then-not-have_words : goal.returns-then-not-have_words
returns-then-not-have_words c =
    words_above _ _ _ _ _ _ c.is_square.ensures c.in_ok-sent_with.ensures c.in_ok-lengths.ensures _
    (words_tested _ (c.args.matrix ∷ c.args.table ∷ []) _ c.have_words.ensures) c.if-not-have_words.true

pub returns : goal.returns
returns c =
    words_below _ _ _ _ _ _ c.is_square.ensures c.in_ok-sent_with.ensures c.in_ok-lengths.ensures _
    (words_tested _ (c.args.matrix ∷ c.args.table ∷ []) _ c.have_words.ensures) c.if-not-have_words.false
