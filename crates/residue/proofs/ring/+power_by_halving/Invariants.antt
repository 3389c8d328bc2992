-- The power to 0 is 1, that to 1 is u, and any other comes from the power to half the exponent. The measure is the exponent.
use Rattle.residue.proofs.ring.+power_by_halving.Given as goal

abbrev pub decreases-power_by_halving : goal.decreases-power_by_halving
decreases-power_by_halving l = l.e
