use Rattle.roots.proofs.unity.OrderScan.{lower_start, lower_turn}
use Rattle.roots.proofs.unity.has_order.Goals as goal

pub loop-m-init : goal.loop-m-init
loop-m-init c = search lower_start

pub loop-m-preserved : goal.loop-m-preserved
loop-m-preserved c = search lower_turn
