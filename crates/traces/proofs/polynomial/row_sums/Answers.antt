use Rattle.std.proofs.Common.{rules}
use Rattle.traces.proofs.Product.{trace_small}
use Rattle.traces.proofs.polynomial.row_sums.Goals as goal

pub add_row-requires-clause-bounds : goal.add_row-requires-clause-bounds
add_row-requires-clause-bounds c = (search rules, search rules, search rules, search trace_small)
