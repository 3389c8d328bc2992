use Rattle.restoring.proofs.columns.Rows.{stored_none, stored_turn, stored_all}
use Rattle.std.proofs.Common.{◌∙◌, ◌<◌, ◌≤◌, length, arith}
use Rattle.restoring.proofs.columns.store_row.Goals as goal

pub loop-c-init : goal.loop-c-init
loop-c-init g c = search stored_none

pub loop-c-preserved : goal.loop-c-preserved
loop-c-preserved g c =
    let inside : c.loop-c.c < length c.args.sums.now = omega arith in
    stored_turn _ _ _ _ inside ∙ c.loop-c.invariant

pub returns : goal.returns
returns g c =
    let end : length c.args.sums.now ≤ c.loop-c.c = omega arith in
    stored_all _ _ _ _ end ∙ c.loop-c.invariant
