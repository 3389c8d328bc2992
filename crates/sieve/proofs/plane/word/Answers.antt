-- A word of a residue is below p.
use Rattle.std.proofs.Common.{rules}
use Rattle.sieve.proofs.plane.Planes.{word_small, word_below}
use Rattle.sieve.proofs.plane.word.Goals as goal

pub narrow-requires : goal.narrow-requires
narrow-requires c = search word_small

pub returns : goal.returns
returns c = (search rules, search word_below)
