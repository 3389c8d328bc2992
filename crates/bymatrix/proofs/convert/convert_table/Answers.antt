-- The matrix is loaded, and each group is multiplied by it.
use Rattle.std.proofs.Common.{rules}
use Rattle.bymatrix.proofs.convert.Laws.{ready_prime, ready_low, ready_short, ready_length, ready_table, ready_rows, products_written}
use Rattle.bymatrix.proofs.convert.convert_table.Goals as goal

pub load_rows-requires : goal.load_rows-requires
load_rows-requires c = (search ready_low, search ready_short, search ready_length, search rules)

pub new-requires : goal.new-requires
new-requires c = search ready_prime

pub convert_groups-requires-clause-degree : goal.convert_groups-requires-clause-degree
convert_groups-requires-clause-degree c = (search ready_low, search ready_short)

pub convert_groups-requires-clause-rows : goal.convert_groups-requires-clause-rows
convert_groups-requires-clause-rows c = search ready_rows

pub convert_groups-requires-clause-convertible : goal.convert_groups-requires-clause-convertible
convert_groups-requires-clause-convertible c = search ready_table

pub returns : goal.returns
returns c = search products_written
