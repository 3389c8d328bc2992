-- `is_irreducible`: X^(p^n) = X, and the primes up to 16 that divide n.
use Rattle.irreducible.proofs.rabin.Decision.{not_fixed, passes_decide}
use Rattle.irreducible.proofs.rabin.is_irreducible.Goals as goal

pub returns-then-not-is_fixed : goal.returns-then-not-is_fixed
returns-then-not-is_fixed c = search not_fixed

pub returns : goal.returns
returns c = search passes_decide
