-- `by_kernel`: the kernel has only 0, or a vector that decides.
use Rattle.frobenius.proofs.KernelAnswer.{none_trivial, decided}
use Rattle.frobenius.proofs.eigenvector.by_kernel.Goals as goal

pub returns-in_err-v-clause-eigenvector : goal.returns-in_err-v-clause-eigenvector
returns-in_err-v-clause-eigenvector c = rw c.from_residual.ensures (search (none_trivial, c.in_err-v.ensures.kernel))

pub returns-clause-eigenvector : goal.returns-clause-eigenvector
returns-clause-eigenvector c = search (decided, c.in_ok-v.ensures.kernel)
