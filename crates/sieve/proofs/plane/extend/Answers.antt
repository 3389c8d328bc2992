use Rattle.std.proofs.Common.{rules}
use Rattle.sieve.proofs.plane.Blocks.{doubled_first, doubled_turn, doubled_end, first_end}
use Rattle.sieve.proofs.plane.extend.Goals as goal

pub loop-to-init : goal.loop-to-init
loop-to-init c = (search rules, search rules, search first_end, search rules, search doubled_first)

pub loop-to-preserved : goal.loop-to-preserved
loop-to-preserved c = (search rules, search rules, search rules, search rules, search doubled_turn)

pub returns-clause-extended : goal.returns-clause-extended
returns-clause-extended c = search doubled_end
