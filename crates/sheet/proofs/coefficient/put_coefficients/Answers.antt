use Rattle.std.proofs.Common.{rules}
use Rattle.sheet.proofs.coefficient.CoefficientLoop.{no_coefficients, next_below, coefficient_small, coefficient_fits, next_room, next_coefficient}
use Rattle.sheet.proofs.coefficient.put_coefficients.Goals as goal

pub loop-v-init : goal.loop-v-init
loop-v-init c = search no_coefficients

pub centred-requires : goal.centred-requires
centred-requires c = (search next_below, search rules)

pub put_right-end-requires : goal.put_right-end-requires
put_right-end-requires c = (search (coefficient_small, next_below), search (coefficient_fits, next_below), search next_room)

pub loop-v-preserved : goal.loop-v-preserved
loop-v-preserved c = search next_coefficient
