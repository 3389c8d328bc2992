-- Below X^n the power is a unit list, and any other comes from the power to half the exponent. The measure is the exponent.
use Rattle.residue.proofs.ring.+power_of_x_by_halving.Given as goal

abbrev pub decreases-power_of_x_by_halving : goal.decreases-power_of_x_by_halving
decreases-power_of_x_by_halving l = l.e
