-- Before each turn the columns are restored before the row, and the sums are those of their words there.
use Rattle.restoring.proofs.columns.Sums.{Restoring}
use Rattle.std.proofs.Common.{◌+◌, ◌*◌}
use Rattle.restoring.proofs.columns.restore_lanes.Given as goal

abbrev pub invariant-loop-row : goal.invariant-loop-row
invariant-loop-row g l = Restoring l.n l.j g.row.W (l.row * l.n + l.j) l.table l.sums l.initial.out l.out
