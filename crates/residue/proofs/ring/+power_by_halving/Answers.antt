use Rattle.residue.proofs.Power.{power_starts, power_self}
use Rattle.residue.proofs.ring.+power_by_halving.Goals as goal

pub returns-then-e-eq0 : goal.returns-then-e-eq0
returns-then-e-eq0 t c = search power_starts

pub returns-then-e-eq1 : goal.returns-then-e-eq1
returns-then-e-eq1 t c = search power_self
