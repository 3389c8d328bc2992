use Rattle.restoring.proofs.columns.Sums.{lanes_start, lanes_turn}
use Rattle.std.proofs.Common.{◌<◌, ◌/◌, length, arith}
use Rattle.restoring.proofs.columns.restore_lanes.Goals as goal

pub loop-row-init : goal.loop-row-init
loop-row-init g c = lanes_start _ _ _ _ _ c.requires.whole c.requires.lanes

pub loop-row-preserved : goal.loop-row-preserved
loop-row-preserved g c =
    let here : c.loop-row.row < length c.args.table.now / c.args.n = omega arith in
    lanes_turn _ _ _ _ _ _ _ _ c.loop-row.invariant c.requires.whole c.requires.lanes here _ c.add_row.ensures _ c.store_row.ensures
