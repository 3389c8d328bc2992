-- `congruences_hold`: the arrays and the modulus hold the lists.
use Rattle.pair.proofs.Refusals.{short_1, short_s, short_r, in_range, holds_1, holds_s, holds_r, arrays_accepted}
use Rattle.pair.proofs.checker.congruences_hold.Goals as goal

pub load-t-requires : goal.load-t-requires
load-t-requires c =
    let range = in_range _ _ _ _ _ _ c.requires in
    record { prime = (range.0, range.1); degree = c.requires.models.degree; words = c.requires.models.modulus2 }

pub load-requires : goal.load-requires
load-requires c = search (short_1, short_s, short_r)

pub load-requires-2 : goal.load-requires-2
load-requires-2 c = search (short_1, short_s, short_r)

pub load-requires-3 : goal.load-requires-3
load-requires-3 c = search (short_1, short_s, short_r)

pub congruent-requires : goal.congruent-requires
congruent-requires c =
    rw (c.load-t.ensures.0, c.load-t.ensures.1)
    (holds_1 _ _ _ _ _ _ c.requires _ c.load.ensures, holds_s _ _ _ _ _ _ c.requires _ c.load-2.ensures, holds_r _ _ _ _ _ _ c.requires _ c.load-3.ensures)

pub returns : goal.returns
returns c =
    arrays_accepted _ _ _ _ _ _ c.requires _ _ _ _ _ c.load.ensures c.load-t.ensures.2 c.load-2.ensures c.load-3.ensures
    (rw (c.load-t.ensures.0, c.load-t.ensures.1) at c.congruent.ensures)
