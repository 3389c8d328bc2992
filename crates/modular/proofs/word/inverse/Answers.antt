-- `word::inverse` takes the cofactor or its negative, whichever is an inverse; there is only one inverse below p.
use Rattle.std.proofs.Common.{rules}
use Rattle.modular.proofs.Inverse.{inverse_plus, inverse_minus, minus_below}
use Rattle.modular.proofs.word.inverse.Goals as goal

pub returns-then-mul-eq1 : goal.returns-then-mul-eq1
returns-then-mul-eq1 c = (search inverse_plus, search rules)

pub returns-else-mul-eq1 : goal.returns-else-mul-eq1
returns-else-mul-eq1 c = (search inverse_minus, search minus_below)
