use Rattle.catalogue.proofs.marks.Loops.{count_starts, item_turn, item_skip, items_done}
use Rattle.catalogue.proofs.marks.count_unmarked.Goals as goal
use Rattle.catalogue.proofs.marks.count_unmarked.Goals.{then-mark-eq0, else-mark-eq0}

pub loop-mark-init : goal.loop-mark-init
loop-mark-init c = search count_starts

pub loop-mark-preserved : goal.loop-mark-preserved
loop-mark-preserved c = elim c.if-mark-eq0.branch [ then-mark-eq0 w ↦ search item_turn | else-mark-eq0 w ↦ search item_skip ]

pub returns : goal.returns
returns c =
    items_done _ _ _ c.requires.0 c.requires.1 _ c.loop-mark.count c.loop-mark.invariant c.loop-mark.auto.mark-index-end c.loop-mark-test.false
