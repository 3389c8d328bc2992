use Rattle.std.proofs.Common.{arith}
use Rattle.sieve.proofs.digits.Turns.{power_most}
use Rattle.sieve.proofs.digits.power.Goals as goal

pub overflow_mul-r : goal.overflow_mul-r
overflow_mul-r c = omega (arith, power_most _ _ _ _ c.requires.0 c.requires.1 c.loop-test.true c.loop.invariant)
