-- `reader::whole_bytes`: the value is the number in the bytes before the index.
use mathlib.Core.Path.{◌≡◌}
use Prim.Native.Nat.{◌*◌}
use Rattle.card.specs.Bits.{unpacked}
use Rattle.card.specs.Card.{field_at}
use Rattle.reader.proofs.reader.whole_bytes.Given as goal

abbrev pub invariant-loop-byte : goal.invariant-loop-byte
invariant-loop-byte l = l.value ≡ field_at (unpacked l.card) (8 * l.first) (8 * l.byte-index)
