-- The three tests decide, one after the other.
use Rattle.catalogue.proofs.number.Laws.{no_prime, no_degree, size_accepted, too_many}
use Rattle.catalogue.proofs.number.check_size.Goals as goal

pub returns-then-not-is_prime : goal.returns-then-not-is_prime
returns-then-not-is_prime c = no_prime _ _ c.if-not-is_prime.ensures

pub returns-then-not-is_degree : goal.returns-then-not-is_degree
returns-then-not-is_degree c = no_degree _ _ c.if-not-is_prime.ensures c.if-not-is_degree.ensures

pub returns-then-not-fits : goal.returns-then-not-fits
returns-then-not-fits c = too_many _ _ c.if-not-is_prime.ensures c.if-not-is_degree.ensures c.if-not-fits.ensures

pub returns : goal.returns
returns c = size_accepted _ _ c.if-not-is_prime.ensures c.if-not-is_degree.ensures c.if-not-fits.ensures
