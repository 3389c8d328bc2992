-- `scaling`: two numbers with the same power differ by an n-th power, so k exists.
use Rattle.roots.proofs.Radicands.{radicands_solvable}
use Rattle.frobenius.proofs.scaling.scaling.Goals as goal

pub root_of_ratio-k-requires-clause-solvable : goal.root_of_ratio-k-requires-clause-solvable
root_of_ratio-k-requires-clause-solvable c = search radicands_solvable
