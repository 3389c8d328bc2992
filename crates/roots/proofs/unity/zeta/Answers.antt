use Rattle.std.proofs.Common.{rules}
use Rattle.roots.proofs.unity.OrderScan.{smallest_start, smallest_lower, smallest_other, smallest_above, smallest_end}
use Rattle.roots.proofs.unity.zeta.Goals as goal
use Rattle.roots.proofs.unity.zeta.Goals.{then-x-least+then-has_order, else-x-least, else-x-least-via-then-x-least+else-has_order, else-x-least-via-else-x-least}

pub loop-k-init : goal.loop-k-init
loop-k-init c = search smallest_start

pub loop-k-preserved : goal.loop-k-preserved
loop-k-preserved c =
    elim c.if-x-least.branch [
      | then-x-least+then-has_order w ↦ search smallest_lower
      | else-x-least w ↦
          elim w.else-x-least.branch [
            | else-x-least-via-then-x-least+else-has_order v ↦ search smallest_other
            | else-x-least-via-else-x-least v ↦ search smallest_above
          ]
    ]

pub returns : goal.returns
returns c = (search smallest_end, search rules)
