use Rattle.text.specs.Digits.{hexadecimal}
use Rattle.text.proofs.Append.{append_nothing, append_next}
use Rattle.text.proofs.HexadecimalDigits.{hexadecimal-append, hexadecimal_room}
use Rattle.text.proofs.hexadecimal.put_hexadecimal.Goals as goal

pub loop-byte-init : goal.loop-byte-init
loop-byte-init c = unfold hexadecimal in search append_nothing

pub put_digits-end-requires : goal.put_digits-end-requires
put_digits-end-requires c = search hexadecimal_room

pub loop-byte-preserved : goal.loop-byte-preserved
loop-byte-preserved c = search (append_next 0 hexadecimal hexadecimal-append)
