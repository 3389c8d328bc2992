use Rattle.restoring.proofs.columns.Sums.{adding_none, adding_turn, adding_done}
use Rattle.std.proofs.Common.{rules, arith}
use Rattle.restoring.proofs.columns.add_row.Goals as goal

pub loop-c-init : goal.loop-c-init
loop-c-init g c = (search rules, search adding_none)

pub loop-c-preserved : goal.loop-c-preserved
loop-c-preserved g c = (search rules, adding_turn _ _ _ _ _ _ c.loop-c.invariant.1 (omega arith) c.plus.ensures)

pub returns : goal.returns
returns g c = adding_done _ _ _ _ _ c.loop-c.invariant.1 (omega arith)
