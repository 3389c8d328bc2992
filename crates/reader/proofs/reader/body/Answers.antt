-- `reader::body`: one law for each return.
use Rattle.reader.proofs.reader.ReadFaults.{body_word, body_none}
use Rattle.reader.proofs.reader.body.Goals as goal

pub returns-then-not-words_below : goal.returns-then-not-words_below
returns-then-not-words_below c = search body_word

pub returns : goal.returns
returns c = search body_none
