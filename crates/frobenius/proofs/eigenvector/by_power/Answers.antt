-- `by_power`: an n-th root of a constant with the power ζ is an eigenvector.
use Rattle.frobenius.proofs.KernelAnswer.{root_found}
use Rattle.frobenius.proofs.eigenvector.by_power.Goals as goal

pub returns-then-is_radicand : goal.returns-then-is_radicand
returns-then-is_radicand c = search (root_found, c.in_ok-root.ensures, c.is_radicand.ensures c.if-is_radicand.true)
