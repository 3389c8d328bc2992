use Rattle.residue.proofs.product.ShiftLoop.{top_small}
use Rattle.residue.proofs.product.multiply_times_x_into.Goals as goal

pub opposite-requires : goal.opposite-requires
opposite-requires c = search top_small
