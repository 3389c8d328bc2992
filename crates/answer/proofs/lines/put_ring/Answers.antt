-- `lines::put_ring` writes the line of a pair over rings that are not fields.
use Rattle.answer.proofs.lines.OneLine.{ring_line}
use Rattle.answer.proofs.lines.put_ring.Goals as goal

pub returns : goal.returns
returns c = search ring_line
