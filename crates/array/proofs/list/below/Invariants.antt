-- `list::below`: the words before x are tested, and those from x on decide.
use mathlib.Core.Path.{◌≡◌}
use mathlib.Core.Bool.{◌&&◌}
use lib.ListN.{drop}
use Rattle.array.specs.Words.{all_below}
use Rattle.array.proofs.list.below.Given as goal

abbrev pub invariant-loop-x : goal.invariant-loop-x
invariant-loop-x l = all_below l.p l.xs ≡ (l.tested && all_below l.p (drop l.x-index l.xs))
