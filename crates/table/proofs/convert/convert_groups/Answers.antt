use Rattle.std.proofs.Common.{rules}
use Rattle.table.proofs.convert.Laws.{starts, rest_words, turn, done}
use Rattle.table.proofs.convert.convert_groups.Goals as goal

pub loop-k-init : goal.loop-k-init
loop-k-init c = search starts

pub multiply-requires-clause-rows : goal.multiply-requires-clause-rows
multiply-requires-clause-rows c = (search rules, search rest_words)

pub loop-k-preserved : goal.loop-k-preserved
loop-k-preserved c = search turn

pub returns : goal.returns
returns c = search done
