-- The two factors r and q take out the top words before and between the steps.
use Rattle.std.proofs.Common.{rules}
use Rattle.residue.proofs.product.TwoSteps.{coefficient_below, next_below, even_here, odd_here, even_given, odd_given, top_small, between_small, steps_end}
use Rattle.residue.proofs.product.two_steps.Goals as goal

pub opposite-r-requires : goal.opposite-r-requires
opposite-r-requires c = search top_small

pub middle_top-x-requires-clause-sizes : goal.middle_top-x-requires-clause-sizes
middle_top-x-requires-clause-sizes c = (search rules, search next_below, search rules)

pub middle_top-x-requires-clause-half : goal.middle_top-x-requires-clause-half
middle_top-x-requires-clause-half c = (search even_here, search odd_here)

pub opposite-q-requires : goal.opposite-q-requires
opposite-q-requires c = search between_small

pub next_top-top-requires-clause-sizes : goal.next_top-top-requires-clause-sizes
next_top-top-requires-clause-sizes c =
    (search rules, search coefficient_below, search next_below, search rules, search rules)

pub next_top-top-requires-clause-half : goal.next_top-top-requires-clause-half
next_top-top-requires-clause-half c = (search even_here, search odd_here)

pub add_rows-requires-clause-factors : goal.add_rows-requires-clause-factors
add_rows-requires-clause-factors c = (search coefficient_below, search rules, search next_below, search rules)

pub add_rows-requires-clause-half : goal.add_rows-requires-clause-half
add_rows-requires-clause-half c = (search even_given, search odd_given)

pub returns-clause-halves_after : goal.returns-clause-halves_after
returns-clause-halves_after c =
    (steps_end _ _ _ _ _ _ _ _ _ (search rules) (search rules) c.requires.halves c.requires.top_word _ _ (search rules) c.args.t.now.below c.requires.holds.0 c.requires.holds.1
    c.opposite-r.ensures.0 c.opposite-r.ensures.1 c.middle_top-x.ensures _ _ _ c.opposite-q.ensures.0
    c.opposite-q.ensures.1 c.add_rows.ensures.even_row c.add_rows.ensures.odd_row _ c.next_top-top.ensures).0

pub returns-clause-value : goal.returns-clause-value
returns-clause-value c =
    (steps_end _ _ _ _ _ _ _ _ _ (search rules) (search rules) c.requires.halves c.requires.top_word _ _ (search rules) c.args.t.now.below c.requires.holds.0 c.requires.holds.1
    c.opposite-r.ensures.0 c.opposite-r.ensures.1 c.middle_top-x.ensures _ _ _ c.opposite-q.ensures.0
    c.opposite-q.ensures.1 c.add_rows.ensures.even_row c.add_rows.ensures.odd_row _ c.next_top-top.ensures).1
