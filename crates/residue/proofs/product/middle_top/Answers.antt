-- One word more, and the sum fits.
use Rattle.std.proofs.Common.{rules}
use Rattle.residue.proofs.product.Tops.{top_few, word_top}
use Rattle.residue.proofs.product.middle_top.Goals as goal

pub plus_products-requires : goal.plus_products-requires
plus_products-requires c = (search word_top, search rules, search top_few, search rules, search top_few)
