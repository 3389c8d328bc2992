use Rattle.std.proofs.Common.{rules}
use Rattle.array.proofs.Painted.{painted_none}
use Rattle.card.proofs.Copied.{copy_next, copy_whole}
use Rattle.writer.proofs.writer.write_bytes.Goals as goal

pub loop-k-init : goal.loop-k-init
loop-k-init c = search painted_none

pub loop-k-preserved : goal.loop-k-preserved
loop-k-preserved c = search copy_next

pub returns : goal.returns
returns c = search (copy_whole, rules)
