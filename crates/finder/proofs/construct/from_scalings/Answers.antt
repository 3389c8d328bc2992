-- `from_scalings`: both eigenvectors have a scaling whose n-th power is a, and it is α.
use Rattle.std.proofs.Common.{rules}
use Rattle.finder.proofs.construct.FromEigenvectors.{zeta_has_order, found_radicand, choices}
use Rattle.finder.proofs.construct.from_scalings.Goals as goal

pub radicand-a-requires-clause-order : goal.radicand-a-requires-clause-order
radicand-a-requires-clause-order c = (search rules, search zeta_has_order)

pub scaling-alpha1-requires-clause-order : goal.scaling-alpha1-requires-clause-order
scaling-alpha1-requires-clause-order c = (search rules, search zeta_has_order)

pub scaling-alpha1-requires-clause-radicand : goal.scaling-alpha1-requires-clause-radicand
scaling-alpha1-requires-clause-radicand c = (search (rules, found_radicand), search (found_radicand, c.args.t1.now.below))

pub scaling-alpha2-requires-clause-order : goal.scaling-alpha2-requires-clause-order
scaling-alpha2-requires-clause-order c = (search rules, search zeta_has_order)

pub scaling-alpha2-requires-clause-radicand : goal.scaling-alpha2-requires-clause-radicand
scaling-alpha2-requires-clause-radicand c =
    let (p_is, n_is) = c.requires.same in
    let below2 = rw (p_is, n_is) at c.args.t2.now.below in
    let (z_below, z_is) = c.requires.zeta in
    (search (rules, found_radicand, c.args.t1.now.below), found_radicand _ _ _ _ c.requires.admissible z_is z_below below2 _ _ c.requires.second_found)

pub between-requires-clause-choices : goal.between-requires-clause-choices
between-requires-clause-choices c =
    let (p_is, n_is) = c.requires.same in
    let below2 = rw (p_is, n_is) at c.args.t2.now.below in
    let (z_below, z_is) = c.requires.zeta in
    choices _ _ _ _ _ c.requires.admissible z_is z_below c.args.t1.now.below below2 _ _ _ _ c.requires.first_found c.requires.second_found
    _ (search rules) (search rules) _ _ c.scaling-alpha1.ensures c.scaling-alpha2.ensures
