-- A minus and the digits of the magnitude, or the digits alone.
use Rattle.text.proofs.columns.Sign.{minus_room, minus_digits_room, minus_append, plain_room, plain_append}
use Rattle.text.proofs.columns.put_signed.Goals as goal

pub put_byte-end-requires : goal.put_byte-end-requires
put_byte-end-requires c = search minus_room

pub put_decimal-requires : goal.put_decimal-requires
put_decimal-requires c = search minus_digits_room

pub returns-then-x-lt0 : goal.returns-then-x-lt0
returns-then-x-lt0 c = search minus_append

pub put_decimal-requires-2 : goal.put_decimal-requires-2
put_decimal-requires-2 c = search plain_room

pub returns : goal.returns
returns c = search plain_append
