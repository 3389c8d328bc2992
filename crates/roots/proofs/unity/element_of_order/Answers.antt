use Rattle.roots.proofs.unity.OrderScan.{none_before_turn}
use Rattle.roots.proofs.unity.element_of_order.Goals as goal

pub loop-w-preserved : goal.loop-w-preserved
loop-w-preserved c = search none_before_turn
