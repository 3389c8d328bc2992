-- `hexadecimal::hexadecimal_digit` is the digit: 0 to 9, then A to F.
use Rattle.text.proofs.HexadecimalDigits.{digit_low, digit_high}
use Rattle.text.proofs.hexadecimal.hexadecimal_digit.Goals as goal

pub returns-then-d-lt10 : goal.returns-then-d-lt10
returns-then-d-lt10 c = search digit_low

pub returns-else-d-lt10 : goal.returns-else-d-lt10
returns-else-d-lt10 c = search digit_high
