use Rattle.std.proofs.Common.{◌<◌, arith, rules}
use Rattle.array.proofs.Painted.{painted_none}
use Rattle.matrix.proofs.product.ProductLoop.{apply_turn}
use Rattle.matrix.proofs.words.WordLoop.{words_fit, loaded_factors, loaded_done}
use Rattle.matrix.proofs.words.multiply_many.Goals as goal

pub load_words-loaded-requires : goal.load_words-loaded-requires
load_words-loaded-requires c = (search rules, search rules, search words_fit)

pub loop-i-init : goal.loop-i-init
loop-i-init c = search painted_none

pub dot-requires-clause-factors : goal.dot-requires-clause-factors
dot-requires-clause-factors c =
    let below : c.loop-i.i < c.args.n = omega arith in
    search loaded_factors

pub loop-i-preserved : goal.loop-i-preserved
loop-i-preserved c = search apply_turn

pub returns : goal.returns
returns c = search loaded_done
