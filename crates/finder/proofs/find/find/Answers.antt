-- `find`: 1 to 4 come first and change nothing, then 5 to 7 or the pair.
use Rattle.std.proofs.lemmas.Result.{err_from_is_err_and}
use Rattle.finder.proofs.find.FindAnswer.{find_refused, forward_kept, backward_kept, models, forward_size, backward_size, find_answered, forward_output, backward_output}
use Rattle.finder.proofs.find.find.Goals as goal

pub returns-in_err-sent-clause-value : goal.returns-in_err-sent-clause-value
returns-in_err-sent-clause-value c =
    let p = err_from_is_err_and c.from_residual.result c.from_residual.ensures.1 in rw (p.1, p.2) (find_refused _ _ _ _ _ _ _ c.in_err-sent.ensures)

pub returns-in_err-sent-clause-s_after : goal.returns-in_err-sent-clause-s_after
returns-in_err-sent-clause-s_after c = forward_kept _ _ _ _ _ _ _ c.in_err-sent.ensures

pub returns-in_err-sent-clause-r_after : goal.returns-in_err-sent-clause-r_after
returns-in_err-sent-clause-r_after c = backward_kept _ _ _ _ _ _ _ c.in_err-sent.ensures

pub write_pair-requires-clause-models : goal.write_pair-requires-clause-models
write_pair-requires-clause-models c = models _ _ _ _ _ _ c.in_ok-sent.ensures

pub write_pair-requires-clause-lengths : goal.write_pair-requires-clause-lengths
write_pair-requires-clause-lengths c = (forward_size _ _ _ _ _ _ c.in_ok-sent.ensures, backward_size _ _ _ _ _ _ c.in_ok-sent.ensures)

pub returns-clause-value : goal.returns-clause-value
returns-clause-value c = find_answered _ _ _ _ _ _ c.in_ok-sent.ensures _ c.write_pair.ensures.value

pub returns-clause-s_after : goal.returns-clause-s_after
returns-clause-s_after c = forward_output _ _ _ _ _ _ c.in_ok-sent.ensures _ c.write_pair.ensures.value _ c.write_pair.ensures.s_after

pub returns-clause-r_after : goal.returns-clause-r_after
returns-clause-r_after c = backward_output _ _ _ _ _ _ c.in_ok-sent.ensures _ c.write_pair.ensures.value _ c.write_pair.ensures.r_after
