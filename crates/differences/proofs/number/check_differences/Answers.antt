-- The degree decides first, then the lengths.
use Rattle.differences.proofs.number.Laws.{no_degree, degree_positive, lengths_decide}
use Rattle.differences.proofs.number.check_differences.Goals as goal

pub returns-then-not-is_degree : goal.returns-then-not-is_degree
returns-then-not-is_degree c = no_degree _ _ _ c.if-not-is_degree.ensures

pub lengths-requires : goal.lengths-requires
lengths-requires c = degree_positive _ c.args.table.now c.args.out.now c.if-not-is_degree.ensures

pub returns : goal.returns
returns c = lengths_decide _ _ _ c.if-not-is_degree.ensures _ c.lengths.ensures
