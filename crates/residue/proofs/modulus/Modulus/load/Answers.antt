-- The array holds the words of the list, and zeros after them.
use Rattle.std.proofs.Common.{arith}
use Rattle.array.proofs.Padded.{holds_is}
use Rattle.array.proofs.Words.{words_length}
use Rattle.residue.proofs.modulus.Modulus.load.Goals as goal

pub load-requires : goal.load-requires
load-requires c = omega (arith, words_length c.requires.words, c.requires.degree.1)

pub new-requires-2-clause-below : goal.new-requires-2-clause-below
new-requires-2-clause-below c = rw c.new.ensures (holds_is c.load.ensures c.requires.words)
