-- The shifted 2^32 stays below 2^64, so that the reciprocal is the whole quotient.
use Rattle.std.proofs.Common.{arith}
use Rattle.modular.proofs.barrett.Shift.{shift_short}
use Rattle.modular.proofs.barrett.Barrett.new.Goals as goal

pub overflow_shl-result : goal.overflow_shl-result
overflow_shl-result c = omega (arith, shift_short _ _ c.requires.1 c.shift_of-shift.ensures.0)
