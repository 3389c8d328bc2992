use Rattle.std.proofs.Common.{rules}
use Rattle.sieve.proofs.sieve.Degrees.{degrees_none, degree_fits, degrees_turn, last_below, last_clear}
use Rattle.sieve.proofs.sieve.sieve.Goals as goal

pub loop-m-init : goal.loop-m-init
loop-m-init c = degrees_none _ _ _ c.requires.none_marked

pub sieve_degree-requires-clause-sizes : goal.sieve_degree-requires-clause-sizes
sieve_degree-requires-clause-sizes c = (search rules, search rules, search rules, search degree_fits, search rules)

pub loop-m-preserved : goal.loop-m-preserved
loop-m-preserved c = search degrees_turn

pub sieve_degree-requires-2-clause-sieved_below : goal.sieve_degree-requires-2-clause-sieved_below
sieve_degree-requires-2-clause-sieved_below c = (search last_below, search last_clear)
