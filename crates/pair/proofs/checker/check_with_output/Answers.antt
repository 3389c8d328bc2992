-- `check_with_output`: a refusal from 1 to 4, or what comes after them.
use Rattle.std.proofs.lemmas.Result.{err_from_is_err_and}
use Rattle.refusal.proofs.Refused.{refused}
use Rattle.pair.proofs.Refusals.{check_refused, check_given, check_follows}
use Rattle.pair.proofs.checker.check_with_output.Goals as goal

pub returns-in_err-sent_with : goal.returns-in_err-sent_with
returns-in_err-sent_with c =
    let p = err_from_is_err_and c.from_residual.result c.from_residual.ensures.1 in
    rw (p.1, p.2) (check_refused _ _ _ _ _ _ _ _ c.in_err-sent_with.ensures (refused _))

pub check_pair-requires : goal.check_pair-requires
check_pair-requires c = check_given _ _ _ _ _ _ _ c.in_ok-sent_with.ensures

pub returns : goal.returns
returns c = check_follows _ _ _ _ _ _ _ c.in_ok-sent_with.ensures _ c.check_pair.ensures
