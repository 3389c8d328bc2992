-- `congruent`: the two tests decide the four congruences.
use Rattle.std.proofs.Common.{rules}
use Rattle.matrix.proofs.PowerMatrix.{square_of_powers}
use Rattle.pair.proofs.congruence.TwoTests.{root_fails, inverse_decides}
use Rattle.pair.proofs.congruence.congruent.Goals as goal

pub returns-else-is_root : goal.returns-else-is_root
returns-else-is_root c = search root_fails

pub apply-requires-clause-square : goal.apply-requires-clause-square
apply-requires-clause-square c = (search square_of_powers, search rules)

pub returns-then-is_root : goal.returns-then-is_root
returns-then-is_root c = search inverse_decides
