-- `is_x`: u is compared with the residue of X word by word.
use Rattle.comparison.proofs.equality.Comparison.{x_decides}
use Rattle.comparison.proofs.equality.is_x.Goals as goal

pub returns : goal.returns
returns c = search x_decides
