-- T and S are loaded, and the matrix of the powers of S is written.
use Rattle.array.proofs.Padded.{holds_is}
use Rattle.array.proofs.Words.{words_short}
use Rattle.bymatrix.proofs.build.Laws.{powers_fit, matrix_written}
use Rattle.bymatrix.proofs.build.write_matrix.Goals as goal

pub load-requires-2 : goal.load-requires-2
load-requires-2 c = search words_short

pub powers-requires-clause-holds : goal.powers-requires-clause-holds
powers-requires-clause-holds c = rw (c.load.ensures.0, c.load.ensures.1) (holds_is c.load-2.ensures c.requires.words.1)

pub store_rows-requires-clause-square : goal.store_rows-requires-clause-square
store_rows-requires-clause-square c =
    powers_fit _ _ _ _ _ _ _ c.requires.sizes.0 c.requires.words.0 c.requires.words.1 c.load.ensures.2 c.load-2.ensures
    (rw (c.load.ensures.0, c.load.ensures.1) at c.powers.ensures.powers) c.requires.sizes.1

pub returns : goal.returns
returns c =
    matrix_written _ _ _ _ _ _ _ c.requires.sizes.0 c.requires.words.0 c.requires.words.1 c.load.ensures.2 c.load-2.ensures
    (rw (c.load.ensures.0, c.load.ensures.1) at c.powers.ensures.powers) _ c.store_rows.ensures
