-- `is_eigenvector`: not 0, and its image is its multiple.
use Rattle.frobenius.proofs.kernel.Resolvent.{test_passed}
use Rattle.frobenius.proofs.kernel.is_eigenvector.Goals as goal

pub returns : goal.returns
returns c = search test_passed
