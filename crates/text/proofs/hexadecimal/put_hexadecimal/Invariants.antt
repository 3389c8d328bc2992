-- `hexadecimal::put_hexadecimal` writes the digits of one byte behind those of another.
use lib.ListN.{take}
use Rattle.text.specs.Digits.{hexadecimal}
use Rattle.text.specs.Text.{Appended}
use Rattle.text.proofs.hexadecimal.put_hexadecimal.Given as goal

abbrev pub invariant-loop-byte : goal.invariant-loop-byte
invariant-loop-byte l = Appended l.at (hexadecimal (take l.byte-index l.bytes)) l.initial.text l.text l.end
