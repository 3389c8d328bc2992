-- The lowest word has no odd word below it.
use Rattle.residue.proofs.product.JoinLoop.{lowest_is, lowest_small, higher_is, higher_small}
use Rattle.residue.proofs.product.joined_word.Goals as goal

pub returns-then-j-eq0 : goal.returns-then-j-eq0
returns-then-j-eq0 c = (search lowest_is, search lowest_small)

pub returns : goal.returns
returns c = (search higher_is, search higher_small)
