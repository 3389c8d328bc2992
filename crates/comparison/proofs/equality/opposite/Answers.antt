use Rattle.std.proofs.Common.{rules}
use Rattle.array.proofs.Padded.{holds_word}
use Rattle.comparison.proofs.equality.Comparison.{opposite_starts, opposite_next, opposite_fails, left_none}
use Rattle.comparison.proofs.equality.opposite.Goals as goal

pub loop-i-init : goal.loop-i-init
loop-i-init c = search opposite_starts

pub add-requires : goal.add-requires
add-requires c = (search rules, search holds_word, search holds_word)

pub returns-then-add-ne0 : goal.returns-then-add-ne0
returns-then-add-ne0 c = search opposite_fails

pub loop-i-preserved : goal.loop-i-preserved
loop-i-preserved c = search opposite_next

pub returns : goal.returns
returns c = search left_none
