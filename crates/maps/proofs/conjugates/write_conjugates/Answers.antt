-- T and S are loaded, and the matrix of u ↦ u^p is worked out once.
use Rattle.array.proofs.Padded.{front_is, holds_is}
use Rattle.array.proofs.Words.{words_short}
use Rattle.maps.proofs.conjugates.write_conjugates.Goals as goal

pub load-requires : goal.load-requires
load-requires c = search words_short

pub sorted_conjugates-requires-clause-holds : goal.sorted_conjugates-requires-clause-holds
sorted_conjugates-requires-clause-holds c =
    (c.frobenius.ensures, rw (c.load-modulus.ensures.0, c.load-modulus.ensures.1) (holds_is c.load.ensures c.requires.words.1))

pub returns : goal.returns
returns c =
    rw (c.load-modulus.ensures.0, c.load-modulus.ensures.1, front_is c.load-modulus.ensures.2 c.requires.words.0, front_is c.load.ensures c.requires.words.1)
    at c.sorted_conjugates.ensures
