-- `normalise`: the first word that is not 0 has an inverse.
use Rattle.std.proofs.Common.{rules}
use Rattle.scalar.proofs.vector.VectorScan.{first_non_zero_positive_word, first_non_zero_small_word, normalised_holds}
use Rattle.scalar.proofs.vector.normalise.Goals as goal

pub inverse-requires-clause-p_bound : goal.inverse-requires-clause-p_bound
inverse-requires-clause-p_bound c = (search rules, search first_non_zero_positive_word, search first_non_zero_small_word)

pub returns-clause-holds : goal.returns-clause-holds
returns-clause-holds c = search normalised_holds
