-- `frobenius`: the powers of X^p are the columns of u ↦ u^p.
use Rattle.matrix.proofs.FrobeniusMatrix.{power_x_holds, powers_frobenius}
use Rattle.matrix.proofs.frobenius.frobenius.Goals as goal

pub powers-requires-clause-holds : goal.powers-requires-clause-holds
powers-requires-clause-holds c = search power_x_holds

pub returns : goal.returns
returns c = search powers_frobenius
