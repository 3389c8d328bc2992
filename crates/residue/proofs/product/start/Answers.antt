-- Nothing where n is even; where n is odd one step with the factor 0 for T, since there is no top word yet.
use Rattle.std.proofs.Common.{rules}
use Rattle.residue.proofs.Step.{top_short}
use Rattle.residue.proofs.DelayedProduct.{top_word}
use Rattle.residue.proofs.product.OddDegree.{blank_half, even_start, even_top, odd_start, odd_top}
use Rattle.residue.proofs.product.start.Goals as goal

pub returns-then-n-eq0-clause-halves : goal.returns-then-n-eq0-clause-halves
returns-then-n-eq0-clause-halves c = search even_start

pub returns-then-n-eq0-clause-value : goal.returns-then-n-eq0-clause-value
returns-then-n-eq0-clause-value c = search even_top

pub add_rows-requires-clause-factors : goal.add_rows-requires-clause-factors
add_rows-requires-clause-factors c = (search top_word, search rules, search rules, search rules)

pub add_rows-requires-clause-half : goal.add_rows-requires-clause-half
add_rows-requires-clause-half c = (search blank_half, search blank_half)

pub times-requires : goal.times-requires
times-requires c = (search top_short, search top_short)

pub returns-clause-halves : goal.returns-clause-halves
returns-clause-halves c = search odd_start

pub returns-clause-value : goal.returns-clause-value
returns-clause-value c =
    let t = c.args.t.now in
    odd_top _ _ _ _ _ _ _ _ _ t.d.reduces.big t.degree.0 t.degree.1 t.below c.requires.holds.0 c.requires.holds.1 c.requires.zeros.0 c.requires.zeros.1
    c.if-n-eq0.false c.add_rows.ensures.even_row c.add_rows.ensures.odd_row _ c.times.ensures
