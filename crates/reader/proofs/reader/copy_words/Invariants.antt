-- `reader::copy_words` writes the words over the list from the front.
use mathlib.Core.Path.{◌≡◌}
use lib.ListN.{length}
use Rattle.array.proofs.Painted.{painted}
use Rattle.array.proofs.Copying.{entry}
use Rattle.card.specs.Bits.{unpacked}
use Rattle.card.specs.Card.{fields_at}
use Rattle.reader.proofs.reader.copy_words.Given as goal

abbrev pub invariant-loop-k : goal.invariant-loop-k
invariant-loop-k l = l.words ≡ painted l.initial.words (entry (fields_at (unpacked l.card) l.start l.w (length l.initial.words))) l.k
