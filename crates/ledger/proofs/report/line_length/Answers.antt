-- Two bytes stand before the number.
use Rattle.std.proofs.Common.{rules}
use Rattle.ledger.proofs.report.Laws.{line_has_length}
use Rattle.ledger.proofs.report.line_length.Goals as goal

pub returns : goal.returns
returns c = (search line_has_length, search rules)
