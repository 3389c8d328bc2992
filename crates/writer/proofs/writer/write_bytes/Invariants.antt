-- `writer::write_bytes` writes the card over the list from the front.
use mathlib.Core.Path.{◌≡◌}
use Rattle.card.specs.Card.{card}
use Rattle.array.proofs.Painted.{painted}
use Rattle.array.proofs.Copying.{entry}
use Rattle.writer.proofs.writer.write_bytes.Given as goal

abbrev pub invariant-loop-k : goal.invariant-loop-k
invariant-loop-k l = l.out ≡ painted l.initial.out (entry (card l.p l.n l.kind l.words)) l.k
