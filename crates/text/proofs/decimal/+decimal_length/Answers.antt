use Rattle.std.proofs.Common.{arith}
use Rattle.text.proofs.DecimalDigits.{one_digit_long, digits_fit, one_digit_longer}
use Rattle.text.proofs.decimal.+decimal_length.Goals as goal

pub returns-then-k-lt10 : goal.returns-then-k-lt10
returns-then-k-lt10 t c = search one_digit_long

pub overflow_add-result : goal.overflow_add-result
overflow_add-result t c = digits_fit _ _ (omega arith) c.decimal_length.ensures

pub returns : goal.returns
returns t c = search one_digit_longer
