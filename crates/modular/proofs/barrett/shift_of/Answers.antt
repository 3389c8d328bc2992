-- With j the place of the highest bit of p, 2^j ≤ p < 2^(j + 1), the shift is j − 4 or 0.
use Rattle.modular.proofs.barrett.Shift.{shift_none, shift_some}
use Rattle.modular.proofs.barrett.shift_of.Goals as goal

pub returns-then-bits-lt5 : goal.returns-then-bits-lt5
returns-then-bits-lt5 c = shift_none c.args.p c.requires.0 c.requires.1 c.if-bits-lt5.true

pub returns-else-bits-lt5 : goal.returns-else-bits-lt5
returns-else-bits-lt5 c = shift_some c.args.p c.requires.0 c.requires.1 c.if-bits-lt5.false
