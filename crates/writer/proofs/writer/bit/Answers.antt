-- `writer::bit`: the bits of the words, and those of the header.
use Rattle.std.proofs.Common.{rules}
use Rattle.writer.proofs.writer.WrittenBits.{bit_header, bit_words}
use Rattle.writer.proofs.writer.bit.Goals as goal

pub returns-then-start-i : goal.returns-then-start-i
returns-then-start-i c = (search bit_words, search rules)

pub returns : goal.returns
returns c = (search bit_header, search rules)
