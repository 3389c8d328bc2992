-- `divided`: a constant is known by its first word.
use Rattle.frobenius.proofs.KernelAnswer.{power_holds, divided_is, no_constant}
use Rattle.frobenius.proofs.eigenvector.divided.Goals as goal

pub is_constant-requires-clause-holds : goal.is_constant-requires-clause-holds
is_constant-requires-clause-holds c = search power_holds

pub returns : goal.returns
returns c = search divided_is

pub returns-then-not-is_constant : goal.returns-then-not-is_constant
returns-then-not-is_constant c = search no_constant
