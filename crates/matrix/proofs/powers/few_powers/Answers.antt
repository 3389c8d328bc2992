use Rattle.std.proofs.Common.{rules}
use Rattle.residue.proofs.Power.{power_holds}
use Rattle.matrix.proofs.powers.Columns.{last_first, powers_two, last_turn, powers_turn, kept_none, kept_turn}
use Rattle.matrix.proofs.powers.few_powers.Goals as goal

pub loop-j-init : goal.loop-j-init
loop-j-init c = (search last_first, search powers_two, search kept_none)

pub multiply-u-requires : goal.multiply-u-requires
multiply-u-requires c = (search rules, search power_holds)

pub loop-j-preserved : goal.loop-j-preserved
loop-j-preserved c = (search last_turn, search powers_turn, search kept_turn)
