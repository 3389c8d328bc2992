-- `lines::put_valid` writes the line of an accepted pair.
use Rattle.answer.proofs.lines.OneLine.{valid_line}
use Rattle.answer.proofs.lines.put_valid.Goals as goal

pub returns : goal.returns
returns c = search valid_line
