-- `check_pair`: T1, the congruences, and T2 only where a congruence fails.
use Rattle.pair.proofs.Refusals.{pair_accepted}
use Rattle.pair.proofs.checker.check_pair.Goals as goal

pub returns-then-congruences_hold : goal.returns-then-congruences_hold
returns-then-congruences_hold c = search pair_accepted
