-- The sum of both new words fits.
use Rattle.std.proofs.Common.{rules}
use Rattle.residue.proofs.product.Tops.{top_few, second_few, word_top, word_below}
use Rattle.residue.proofs.product.next_top.Goals as goal

pub plus_products-requires : goal.plus_products-requires
plus_products-requires c = (search word_top, search rules, search top_few, search rules, search top_few)

pub plus_products-requires-2 : goal.plus_products-requires-2
plus_products-requires-2 c = (search word_below, search rules, search second_few, search rules, search second_few)
