use Rattle.linear.proofs.system.Answer.{walk_start, walk_turn, outcome_singular, outcome_regular}
use Rattle.linear.proofs.system.solve.Goals as goal

pub loop-c-init : goal.loop-c-init
loop-c-init c = search walk_start

pub returns-in-None-clause-solution : goal.returns-in-None-clause-solution
returns-in-None-clause-solution c = search outcome_singular

pub loop-c-preserved : goal.loop-c-preserved
loop-c-preserved c = search walk_turn

pub returns-clause-solution : goal.returns-clause-solution
returns-clause-solution c = search outcome_regular
