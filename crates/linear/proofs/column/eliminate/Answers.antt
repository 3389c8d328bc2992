-- `eliminate` puts three equivalent systems in a row: with a pivot, with the pivot 1, and with the column of the identity.
use Rattle.std.proofs.Common.{rules}
use Rattle.linear.proofs.Pivoting.{pivot_inverse, eliminated}
use Rattle.linear.proofs.column.eliminate.Goals as goal

pub scale-requires-clause-inverse_of_pivot : goal.scale-requires-clause-inverse_of_pivot
scale-requires-clause-inverse_of_pivot c = (search rules, search rules, search pivot_inverse)

pub returns : goal.returns
returns c = search eliminated
