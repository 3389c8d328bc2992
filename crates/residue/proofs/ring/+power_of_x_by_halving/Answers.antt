use Rattle.residue.proofs.ring.PowerOfX.{monomial_below}
use Rattle.residue.proofs.ring.+power_of_x_by_halving.Goals as goal

pub returns-then-e-n : goal.returns-then-e-n
returns-then-e-n t c = search monomial_below
