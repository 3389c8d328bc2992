-- `writer::header_bit`: one law for each part of the header.
use Rattle.std.proofs.Common.{rules}
use Rattle.writer.proofs.writer.WrittenBits.{bit_before, bit_prime, bit_degree, bit_kind, bit_after}
use Rattle.writer.proofs.writer.header_bit.Goals as goal

pub returns-then-i-l : goal.returns-then-i-l
returns-then-i-l c = (search bit_before, search rules)

pub returns-then-i-place : goal.returns-then-i-place
returns-then-i-place c = (search bit_prime, search rules)

pub returns-then-i-place-2 : goal.returns-then-i-place-2
returns-then-i-place-2 c = (search bit_degree, search rules)

pub returns-then-i-place-3 : goal.returns-then-i-place-3
returns-then-i-place-3 c = (search bit_kind, search rules)

pub returns : goal.returns
returns c = (search bit_after, search rules)
