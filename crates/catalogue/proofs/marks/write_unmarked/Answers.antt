use Rattle.std.proofs.Common.{rules}
use Rattle.catalogue.proofs.marks.Loops.{write_starts, next_ends, write_turn, write_skip, write_done}
use Rattle.catalogue.proofs.marks.write_unmarked.Goals as goal
use Rattle.catalogue.proofs.marks.write_unmarked.Goals.{then-marks-size-eq0, else-marks-size-eq0}

pub loop-code-init : goal.loop-code-init
loop-code-init c = search write_starts

pub slice_bounds-write_digits-end : goal.slice_bounds-write_digits-end
slice_bounds-write_digits-end c = search (next_ends, rules)

pub loop-code-preserved : goal.loop-code-preserved
loop-code-preserved c = elim c.if-marks-size-eq0.branch [ then-marks-size-eq0 w ↦ search write_turn | else-marks-size-eq0 w ↦ search write_skip ]

pub returns : goal.returns
returns c = search write_done
