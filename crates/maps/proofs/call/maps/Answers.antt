-- A refusal leaves the output list alone; else the conjugates of S are written in order, and they are the maps.
use Rattle.std.proofs.lemmas.Result.{err_from_is_err_and}
use Rattle.maps.proofs.call.Answer.{refusal_is, refused_output, success_is, accepted_prime, accepted_sizes, accepted_words, new_output}
use Rattle.maps.proofs.call.maps.Goals as goal

pub returns-in_err-check_with_output-clause-value : goal.returns-in_err-check_with_output-clause-value
returns-in_err-check_with_output-clause-value c =
    let p = err_from_is_err_and c.from_residual.result c.from_residual.ensures.1 in
    rw (p.1, p.2) (refusal_is _ _ _ _ _ _ _ _ c.times.ensures _ c.in_err-check_with_output.ensures)

pub returns-in_err-check_with_output-clause-out_after : goal.returns-in_err-check_with_output-clause-out_after
returns-in_err-check_with_output-clause-out_after c = refused_output _ _ _ _ _ _ _ _ c.times.ensures _ c.in_err-check_with_output.ensures

pub write_conjugates-requires-clause-prime : goal.write_conjugates-requires-clause-prime
write_conjugates-requires-clause-prime c = accepted_prime _ _ _ _ _ _ _ _ c.times.ensures c.in_ok-check_with_output.ensures

pub write_conjugates-requires-clause-sizes : goal.write_conjugates-requires-clause-sizes
write_conjugates-requires-clause-sizes c = accepted_sizes _ _ _ _ _ _ _ _ c.times.ensures c.in_ok-check_with_output.ensures

pub write_conjugates-requires-clause-words : goal.write_conjugates-requires-clause-words
write_conjugates-requires-clause-words c = accepted_words _ _ _ _ _ _ _ _ c.times.ensures c.in_ok-check_with_output.ensures

pub returns-clause-value : goal.returns-clause-value
returns-clause-value c = success_is _ _ _ _ _ _ _ _ c.times.ensures c.in_ok-check_with_output.ensures

pub returns-clause-out_after : goal.returns-clause-out_after
returns-clause-out_after c = new_output _ _ _ _ _ _ _ _ c.times.ensures c.in_ok-check_with_output.ensures _ c.write_conjugates.ensures
