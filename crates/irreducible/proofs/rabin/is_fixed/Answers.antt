-- `is_fixed` compares X^(p^n) with X.
use Rattle.irreducible.proofs.rabin.Test.{fixed_decides}
use Rattle.irreducible.proofs.rabin.is_fixed.Goals as goal

pub returns : goal.returns
returns c = search fixed_decides
