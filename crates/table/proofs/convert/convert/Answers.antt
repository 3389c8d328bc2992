-- The arrays hold T and S, so that the matrix is that of the powers of S.
use Rattle.array.proofs.Words.{words_short}
use Rattle.array.proofs.Padded.{holds_is}
use Rattle.table.proofs.convert.Laws.{is_rows, converts}
use Rattle.table.proofs.convert.convert.Goals as goal

pub load-image-requires : goal.load-image-requires
load-image-requires c = search words_short

pub powers-requires-clause-holds : goal.powers-requires-clause-holds
powers-requires-clause-holds c =
    rw (c.load-modulus.ensures.0, c.load-modulus.ensures.1) (holds_is c.load-image.ensures c.requires.words.1)

pub convert_groups-requires-clause-rows : goal.convert_groups-requires-clause-rows
convert_groups-requires-clause-rows c =
    is_rows _ _ _ _ _ _ _ c.requires.sizes.0 c.requires.words.0 c.requires.words.1 c.load-modulus.ensures.2 c.load-image.ensures
    (rw (c.load-modulus.ensures.0, c.load-modulus.ensures.1) at c.powers.ensures.powers) _ c.load-modulus.ensures.0
    (rw c.load-modulus.ensures.1 at c.powers.ensures.kept)

pub returns : goal.returns
returns c =
    converts _ _ _ _ _ _ _ c.requires.sizes.0 c.requires.words.0 c.requires.words.1 c.load-modulus.ensures.2 c.load-image.ensures
    (rw (c.load-modulus.ensures.0, c.load-modulus.ensures.1) at c.powers.ensures.powers) _ c.load-modulus.ensures.0 _ _ _
    c.requires.convertible c.convert_groups.ensures
