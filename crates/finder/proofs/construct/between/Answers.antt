-- `between`: the powers of α1 and of α2 are independent, and P1(α2) and P2(α1) are S and R.
use Rattle.finder.proofs.construct.Constructed.{alpha1_holds, alpha2_holds, first_square, second_square, pair_is}
use Rattle.finder.proofs.construct.between.Goals as goal

pub powers-requires-clause-holds : goal.powers-requires-clause-holds
powers-requires-clause-holds c =
    let (p_is, n_is) = c.requires.same in
    let below2 = rw (p_is, n_is) at c.args.t2.now.below in
    alpha1_holds _ _ _ _ c.requires.size c.args.t1.now.below below2 _ _ c.requires.choices

pub powers-requires-2-clause-holds : goal.powers-requires-2-clause-holds
powers-requires-2-clause-holds c =
    let (p_is, n_is) = c.requires.same in
    let below2 = rw (p_is, n_is) at c.args.t2.now.below in
    rw (p_is, n_is) (alpha2_holds _ _ _ _ c.requires.size c.args.t1.now.below below2 _ _ c.requires.choices)

pub image-requires-clause-square : goal.image-requires-clause-square
image-requires-clause-square c =
    let (p_is, n_is) = c.requires.same in
    let below2 = rw (p_is, n_is) at c.args.t2.now.below in
    let powers2 = rw (p_is, n_is) at c.powers-2.ensures.powers in (
      first_square _ _ _ _ c.requires.size c.args.t1.now.below below2 _ _ c.requires.choices _ c.powers.ensures.powers,
      second_square _ _ _ _ c.requires.size c.args.t1.now.below below2 _ _ c.requires.choices _ powers2,
    )

pub image-requires-2-clause-square : goal.image-requires-2-clause-square
image-requires-2-clause-square c =
    let (p_is, n_is) = c.requires.same in
    let below2 = rw (p_is, n_is) at c.args.t2.now.below in
    let powers2 = rw (p_is, n_is) at c.powers-2.ensures.powers in
    rw (p_is, n_is) (
      second_square _ _ _ _ c.requires.size c.args.t1.now.below below2 _ _ c.requires.choices _ powers2,
      first_square _ _ _ _ c.requires.size c.args.t1.now.below below2 _ _ c.requires.choices _ c.powers.ensures.powers,
    )

pub returns : goal.returns
returns c =
    let (p_is, n_is) = c.requires.same in
    let below2 = rw (p_is, n_is) at c.args.t2.now.below in
    let powers2 = rw (p_is, n_is) at c.powers-2.ensures.powers in
    let image2 = rw (p_is, n_is) at c.image-2.ensures in
    pair_is _ _ _ _ c.requires.size c.args.t1.now.below below2 _ _ c.requires.choices _ _ c.powers.ensures.powers powers2 _ _ c.image.ensures image2
