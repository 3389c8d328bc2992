-- The digits, and a column for the minus.
use Rattle.std.proofs.Common.{arith}
use Rattle.text.proofs.DecimalDigits.{digits_fit}
use Rattle.text.proofs.columns.Sign.{minus_length, plain_length}
use Rattle.text.proofs.columns.signed_length.Goals as goal

pub overflow_add-result : goal.overflow_add-result
overflow_add-result c = digits_fit _ _ (omega arith) c.decimal_length-digits.ensures

pub returns-then-x-lt0 : goal.returns-then-x-lt0
returns-then-x-lt0 c = search minus_length

pub returns-else-x-lt0 : goal.returns-else-x-lt0
returns-else-x-lt0 c = search plain_length
