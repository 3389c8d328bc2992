-- A refusal by p and n, or the count of what the sieve left unmarked.
use Rattle.std.proofs.Common.{rules}
use Rattle.catalogue.proofs.Answers.{prime_low, prime_positive, degree_low, degree_high, power_few, size_few, count_given}
use Rattle.catalogue.proofs.call.count_models.Goals as goal

pub sieve-requires-clause-sizes : goal.sieve-requires-clause-sizes
sieve-requires-clause-sizes c = (prime_low _ _ c.in_ok-check_size.ensures, degree_low _ _ c.in_ok-check_size.ensures, degree_high _ _ c.in_ok-check_size.ensures, power_few _ _ c.in_ok-check_size.ensures)

pub power-requires : goal.power-requires
power-requires c = (prime_positive _ _ c.in_ok-check_size.ensures, power_few _ _ c.in_ok-check_size.ensures)

pub count_unmarked-requires : goal.count_unmarked-requires
count_unmarked-requires c = (size_few _ _ c.in_ok-check_size.ensures _ c.power.ensures, search rules)

pub returns-clause-count_value : goal.returns-clause-count_value
returns-clause-count_value c = count_given _ _ c.in_ok-check_size.ensures _ c.sieve.ensures.0 _ _ c.power.ensures c.count_unmarked.ensures
