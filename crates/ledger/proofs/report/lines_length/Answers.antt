use Rattle.std.proofs.Common.{rules}
use Rattle.ledger.proofs.report.Laws.{lines_short, lines_longer}
use Rattle.ledger.proofs.report.lines_length.Goals as goal

pub loop-entry-init : goal.loop-entry-init
loop-entry-init c = (search lines_short, search rules)

pub loop-entry-preserved : goal.loop-entry-preserved
loop-entry-preserved c = (search lines_longer, search rules)
