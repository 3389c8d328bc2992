-- The letter of each direction.
use Rattle.ledger.proofs.report.Laws.{letter_forward, letter_back}
use Rattle.ledger.proofs.report.letter.Goals as goal

pub returns-in-Forward : goal.returns-in-Forward
returns-in-Forward c = search letter_forward

pub returns-in-Back : goal.returns-in-Back
returns-in-Back c = search letter_back
