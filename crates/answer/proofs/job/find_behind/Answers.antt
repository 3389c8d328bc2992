-- `job::find_behind` writes what the finder has written behind T1 and T2.
use Rattle.std.proofs.lemmas.Result.{err_from_is_err_and}
use Rattle.answer.proofs.job.JobWords.{pair_behind, pair_refused}
use Rattle.answer.proofs.job.find_behind.Goals as goal

pub returns-in_err-find_in : goal.returns-in_err-find_in
returns-in_err-find_in c =
    let p = err_from_is_err_and c.from_residual.result c.from_residual.ensures.1 in
    rw (p.1, p.2) (pair_refused _ _ _ _ _ _ _ c.requires.2 c.requires.3 c.requires.4 c.in_err-find_in.ensures.value)

pub returns : goal.returns
returns c =
    pair_behind _ _ _ _ _ _ _ _ _ _ c.requires.2 c.requires.3 c.find_in.auto.s c.find_in.auto.r c.requires.4
    c.in_ok-find_in.ensures.value c.find_in.ensures.s_after c.find_in.ensures.r_after c.put_both.ensures
