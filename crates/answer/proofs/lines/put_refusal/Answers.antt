-- `lines::put_refusal` writes the line of a refusal.
use Rattle.std.proofs.Common.{arith}
use Rattle.answer.proofs.lines.OneLine.{digits_room, refusal_room, refusal_line}
use Rattle.answer.proofs.lines.put_refusal.Goals as goal

pub put_decimal-end-requires : goal.put_decimal-end-requires
put_decimal-end-requires c = digits_room _ (omega arith) c.put-start.ensures (omega arith)

pub put_byte-requires : goal.put_byte-requires
put_byte-requires c = refusal_room _ (omega arith) c.put-start.ensures c.put_decimal-end.ensures (omega arith)

pub returns : goal.returns
returns c =
    refusal_line _ (omega arith) c.put-start.ensures c.put_decimal-end.ensures c.put_byte.ensures (omega arith)
