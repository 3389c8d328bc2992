use Rattle.std.proofs.Common.{arith}
use Rattle.text.proofs.DecimalDigits.{one_room, append_one_digit, tenth_room, last_room, append_last_digit}
use Rattle.text.proofs.decimal.+put_decimal.Goals as goal

pub put_byte-requires : goal.put_byte-requires
put_byte-requires t c = search one_room

pub returns-then-k-lt10 : goal.returns-then-k-lt10
returns-then-k-lt10 t c = search append_one_digit

pub put_decimal-end-requires : goal.put_decimal-end-requires
put_decimal-end-requires t c = (omega arith, search tenth_room)

pub put_byte-requires-2 : goal.put_byte-requires-2
put_byte-requires-2 t c = search last_room

pub returns : goal.returns
returns t c = search append_last_digit
