-- `lines::put_pair` writes the line of a pair card.
use Rattle.std.proofs.Common.{arith}
use Rattle.answer.proofs.lines.OneLine.{pair_room, line_of_pair}
use Rattle.answer.proofs.lines.put_pair.Goals as goal

pub put_byte-requires : goal.put_byte-requires
put_byte-requires c = pair_room _ c.put-start.ensures c.put_hexadecimal-end.ensures (omega arith) (omega arith)

pub returns : goal.returns
returns c = line_of_pair _ c.put-start.ensures c.put_hexadecimal-end.ensures (omega arith) c.put_byte.ensures (omega arith)
