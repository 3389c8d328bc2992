-- `writer::byte`: byte k is the field of eight bits at place 8·k, which grows by one bit in each turn.
use mathlib.Core.Path.{◌≡◌}
use Prim.Native.Nat.{◌*◌, ◌^◌, ◌<◌}
use Rattle.card.specs.Bits.{unpacked}
use Rattle.card.specs.Card.{card, field_at}
use Rattle.writer.proofs.writer.byte.Given as goal

abbrev pub invariant-loop-j : goal.invariant-loop-j
invariant-loop-j l = (l.value ≡ field_at (unpacked (card l.p l.n l.kind l.words)) (8 * l.k) l.j) × (l.value < 2 ^ 20)
