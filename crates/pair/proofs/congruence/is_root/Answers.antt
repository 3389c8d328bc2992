-- `is_root`: S^n is S times the last column, and the matrix takes the lower words of T1 to the rest.
use Rattle.std.proofs.Common.{rules}
use Rattle.matrix.proofs.PowerMatrix.{square_of_powers}
use Rattle.pair.proofs.congruence.TwoTests.{last_holds, top_holds, image_holds, root_decides}
use Rattle.pair.proofs.congruence.is_root.Goals as goal

pub multiply-top-requires : goal.multiply-top-requires
multiply-top-requires c = (search rules, search last_holds)

pub apply-rest-requires-clause-square : goal.apply-rest-requires-clause-square
apply-rest-requires-clause-square c = (search square_of_powers, search rules)

pub opposite-requires : goal.opposite-requires
opposite-requires c = (search rules, search rules, search top_holds, search image_holds)

pub returns : goal.returns
returns c = search root_decides
