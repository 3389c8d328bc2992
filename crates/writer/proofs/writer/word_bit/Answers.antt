-- `writer::word_bit`: bit i stands in word i / w, behind i % w others.
use Rattle.std.proofs.Common.{rules}
use Rattle.writer.proofs.writer.WrittenBits.{word_digit, word_past}
use Rattle.writer.proofs.writer.word_bit.Goals as goal

pub returns-in-Some : goal.returns-in-Some
returns-in-Some c = (search (word_digit, rules), search rules)

pub returns-in-None : goal.returns-in-None
returns-in-None c = (search (word_past, rules), search rules)
