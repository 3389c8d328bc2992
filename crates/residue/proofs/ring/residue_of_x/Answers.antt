-- For degree 1 the constant (p − 1)·t0, for a higher degree the second unit list.
use Rattle.residue.proofs.Power.{x_linear, x_higher}
use Rattle.residue.proofs.ring.residue_of_x.Goals as goal

pub returns-then-n-eq1 : goal.returns-then-n-eq1
returns-then-n-eq1 c = search x_linear

pub returns-else-n-eq1 : goal.returns-else-n-eq1
returns-else-n-eq1 c = search x_higher
