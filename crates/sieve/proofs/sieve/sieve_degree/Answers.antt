use Rattle.std.proofs.Common.{rules}
use Rattle.sieve.proofs.sieve.Degree.{lower_sieved, sieving_end}
use Rattle.sieve.proofs.sieve.sieve_degree.Goals as goal

pub strike_degree-requires-clause-sieved : goal.strike_degree-requires-clause-sieved
strike_degree-requires-clause-sieved c = (search lower_sieved, search rules)

pub returns-clause-sieved : goal.returns-clause-sieved
returns-clause-sieved c = (search sieving_end, search rules)
