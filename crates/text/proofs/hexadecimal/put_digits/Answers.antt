-- `hexadecimal::put_digits` writes one digit behind the other.
use Rattle.text.proofs.HexadecimalDigits.{append_digits}
use Rattle.text.proofs.hexadecimal.put_digits.Goals as goal

pub returns : goal.returns
returns c = search append_digits
