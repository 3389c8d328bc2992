-- `product`: a product that is not 0 is that of two powers.
use Rattle.std.proofs.Common.{rules}
use Rattle.character.proofs.table.Known.{product_known}
use Rattle.character.proofs.table.product.Goals as goal

pub returns : goal.returns
returns c = (search product_known, search rules)
