-- Column 0 is 1, and there is no other, or the further ones follow.
use Rattle.matrix.proofs.powers.Columns.{powers_one, powers_alone}
use Rattle.matrix.proofs.powers.powers.Goals as goal

pub higher_powers-requires-clause-first : goal.higher_powers-requires-clause-first
higher_powers-requires-clause-first c = search powers_one

pub returns-else-n-gt1-clause-powers : goal.returns-else-n-gt1-clause-powers
returns-else-n-gt1-clause-powers c = search powers_alone
