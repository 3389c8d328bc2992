use Rattle.reader.proofs.reader.Scans.{words_next, words_fail, words_hold}
use Rattle.reader.proofs.reader.words_below.Goals as goal

pub returns-then-word-p : goal.returns-then-word-p
returns-then-word-p c = search words_fail

pub loop-k-preserved : goal.loop-k-preserved
loop-k-preserved c = search words_next

pub returns : goal.returns
returns c = search words_hold
