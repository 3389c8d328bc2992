-- `generator`: the first round with a = 1, and the others.
use Rattle.tower.proofs.generator.ArrayRounds.{one_holds, first_reached, first_none, next_reached, next_none, last_reached}
use Rattle.tower.proofs.generator.generator.Goals as goal

pub artin_schreier-requires-clause-holds : goal.artin_schreier-requires-clause-holds
artin_schreier-requires-clause-holds c = search one_holds

pub returns-in_err-alpha : goal.returns-in_err-alpha
returns-in_err-alpha c = rw c.from_residual.ensures (search (first_none, c.in_err-alpha.ensures))

pub loop-round-init : goal.loop-round-init
loop-round-init c = search (first_reached, c.in_ok-alpha.ensures)

pub returns-in_err-alpha-2 : goal.returns-in_err-alpha-2
returns-in_err-alpha-2 c = rw c.from_residual-in_err-alpha-2.ensures (search (next_none, c.in_err-alpha-2.ensures))

pub loop-round-preserved : goal.loop-round-preserved
loop-round-preserved c = search (next_reached, c.in_ok-alpha-2.ensures)

pub returns : goal.returns
returns c = search (last_reached, c.loop-round.auto._round-end)
