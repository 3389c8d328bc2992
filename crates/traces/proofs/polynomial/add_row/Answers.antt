use Rattle.traces.proofs.polynomial.RowLoop.{row_turn}
use Rattle.traces.proofs.polynomial.add_row.Goals as goal

pub loop-j-preserved : goal.loop-j-preserved
loop-j-preserved c = search row_turn
