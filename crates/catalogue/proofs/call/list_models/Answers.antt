-- A refusal by p and n leaves the list alone, and so does 3; else the words of what the sieve left unmarked are written.
use Rattle.std.proofs.Common.{rules}
use Rattle.std.proofs.lemmas.Result.{err_from_is_err_and}
use Rattle.catalogue.proofs.Answers.{prime_low, prime_positive, degree_low, degree_high, power_few, size_few, list_refused, output_refused, list_three, output_three, list_none, output_given}
use Rattle.catalogue.proofs.call.list_models.Goals as goal

pub returns-in_err-check_size-clause-value : goal.returns-in_err-check_size-clause-value
returns-in_err-check_size-clause-value c =
    let p = err_from_is_err_and c.from_residual.result c.from_residual.ensures.1 in
    rw (p.1, p.2) (list_refused _ _ _ c.in_err-check_size.ensures _)

pub returns-in_err-check_size-clause-out_after : goal.returns-in_err-check_size-clause-out_after
returns-in_err-check_size-clause-out_after c = output_refused _ _ _ c.in_err-check_size.ensures _

pub sieve-requires-clause-sizes : goal.sieve-requires-clause-sizes
sieve-requires-clause-sizes c = (prime_low _ _ c.in_ok-check_size.ensures, degree_low _ _ c.in_ok-check_size.ensures, degree_high _ _ c.in_ok-check_size.ensures, power_few _ _ c.in_ok-check_size.ensures)

pub power-size-requires : goal.power-size-requires
power-size-requires c = (prime_positive _ _ c.in_ok-check_size.ensures, power_few _ _ c.in_ok-check_size.ensures)

pub count_unmarked-count-requires : goal.count_unmarked-count-requires
count_unmarked-count-requires c = (size_few _ _ c.in_ok-check_size.ensures _ c.power-size.ensures, search rules)

pub returns-then-out-n-clause-value : goal.returns-then-out-n-clause-value
returns-then-out-n-clause-value c = list_three _ _ c.in_ok-check_size.ensures _ c.sieve.ensures.0 _ _ c.power-size.ensures c.count_unmarked-count.ensures _ c.if-out-n.true

pub returns-then-out-n-clause-out_after : goal.returns-then-out-n-clause-out_after
returns-then-out-n-clause-out_after c = output_three _ _ c.in_ok-check_size.ensures _ c.sieve.ensures.0 _ _ c.power-size.ensures c.count_unmarked-count.ensures _ c.if-out-n.true

pub write_unmarked-requires-clause-sizes : goal.write_unmarked-requires-clause-sizes
write_unmarked-requires-clause-sizes c = (prime_positive _ _ c.in_ok-check_size.ensures, degree_high _ _ c.in_ok-check_size.ensures, size_few _ _ c.in_ok-check_size.ensures _ c.power-size.ensures, search rules)

pub returns-clause-value : goal.returns-clause-value
returns-clause-value c = list_none _ _ c.in_ok-check_size.ensures _ c.sieve.ensures.0 _ _ c.power-size.ensures c.count_unmarked-count.ensures _ c.if-out-n.false

pub returns-clause-out_after : goal.returns-clause-out_after
returns-clause-out_after c = output_given _ _ c.in_ok-check_size.ensures _ c.sieve.ensures.0 _ _ c.power-size.ensures c.count_unmarked-count.ensures _ c.if-out-n.false _ c.write_unmarked.ensures
