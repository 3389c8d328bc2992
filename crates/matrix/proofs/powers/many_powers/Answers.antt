use Rattle.std.proofs.Common.{rules}
use Rattle.matrix.proofs.powers.Columns.{last_first, powers_two, last_whole, last_product, last_turn, powers_turn, kept_none, kept_turn}
use Rattle.matrix.proofs.powers.many_powers.Goals as goal

pub loop-j-init : goal.loop-j-init
loop-j-init c = (search last_first, search powers_two, search kept_none)

pub products-u-requires-clause-square : goal.products-u-requires-clause-square
products-u-requires-clause-square c = (search rules, search last_whole)

pub loop-j-preserved : goal.loop-j-preserved
loop-j-preserved c = (search (last_turn, last_product), search (powers_turn, last_product), search kept_turn)
