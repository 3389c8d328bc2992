use Rattle.std.proofs.Common.{rules}
use mathlib.Core.Path.{refl}
use Rattle.array.proofs.Painted.{painted_none}
use Rattle.residue.proofs.Step.{word_short, carry_fits, carry_turn, step_turn, step_alone}
use Rattle.residue.proofs.ring.step.Goals as goal

pub loop-j-init : goal.loop-j-init
loop-j-init c = (refl, search painted_none)

pub times-requires : goal.times-requires
times-requires c = (search rules, search word_short)

pub overflow_add-w : goal.overflow_add-w
overflow_add-w c = search carry_fits

pub loop-j-preserved : goal.loop-j-preserved
loop-j-preserved c = (search carry_turn, search step_turn)

pub returns : goal.returns
returns c = search step_alone
