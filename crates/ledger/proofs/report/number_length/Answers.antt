-- One byte stands behind the digits.
use Rattle.std.proofs.Common.{arith, rules}
use Rattle.ledger.proofs.report.Laws.{number_has_length, digits_few}
use Rattle.ledger.proofs.report.number_length.Goals as goal

pub overflow_add-result : goal.overflow_add-result
overflow_add-result c = omega (arith, digits_few _ _ (search rules) c.decimal_length.ensures)

pub returns : goal.returns
returns c = (search number_has_length, omega (arith, digits_few _ _ (search rules) c.decimal_length.ensures))
