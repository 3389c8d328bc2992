-- The first n words of the arrays are lists of n words below p.
use Rattle.held.proofs.Valid.{valid_size, front_fits}
use Rattle.conversion.proofs.images.Laws.{modulus_words, image_words}
use Rattle.conversion.proofs.images.convert_words.Goals as goal

pub front-requires : goal.front-requires
front-requires c = search front_fits

pub front-requires-2 : goal.front-requires-2
front-requires-2 c = search front_fits

pub convert-requires-clause-sizes : goal.convert-requires-clause-sizes
convert-requires-clause-sizes c = search valid_size

pub convert-requires-clause-words : goal.convert-requires-clause-words
convert-requires-clause-words c = (search modulus_words, search image_words)
