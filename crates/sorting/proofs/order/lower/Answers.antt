use Rattle.sorting.proofs.order.Comparison.{agree_none, decided, agree_all}
use Rattle.sorting.proofs.order.lower.Goals as goal

pub loop-j-init : goal.loop-j-init
loop-j-init c = search agree_none

pub returns-then-u-j : goal.returns-then-u-j
returns-then-u-j c = search decided

pub returns : goal.returns
returns c = search agree_all
