-- Sixteen words, or n where there are fewer: both begin with the first n.
use Rattle.std.proofs.Common.{rules}
use Rattle.matrix.proofs.words.WordLoop.{begins_loaded}
use Rattle.matrix.proofs.words.load_words.Goals as goal

pub returns-then-u-lt16 : goal.returns-then-u-lt16
returns-then-u-lt16 c = search (begins_loaded, rules)

pub returns : goal.returns
returns c = search (begins_loaded, rules)
