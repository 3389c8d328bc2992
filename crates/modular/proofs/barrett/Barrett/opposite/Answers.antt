-- 2·p − y + x is a multiple of p, for y that is x modulo p.
use Rattle.std.proofs.Common.{rules}
use Rattle.modular.proofs.barrett.Reciprocal.{opposite_mod}
use Rattle.modular.proofs.barrett.Barrett.opposite.Goals as goal

pub returns : goal.returns
returns c = (search rules, search opposite_mod)
