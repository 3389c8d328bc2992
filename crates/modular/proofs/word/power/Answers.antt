use Rattle.modular.proofs.word.PowerLoop.{loop_start, product_few, square_few, loop_even, loop_odd}
use Rattle.modular.proofs.word.power.Goals as goal
use Rattle.modular.proofs.word.power.Goals.{then-e-eq1, else-e-eq1}

pub loop-e-init : goal.loop-e-init
loop-e-init c = search loop_start

pub near-r-requires : goal.near-r-requires
near-r-requires c = search product_few

pub near-b-requires : goal.near-b-requires
near-b-requires c = search square_few

pub loop-e-preserved : goal.loop-e-preserved
loop-e-preserved c = elim c.if-e-eq1.branch [ then-e-eq1 w ↦ search loop_odd | else-e-eq1 w ↦ search loop_even ]
