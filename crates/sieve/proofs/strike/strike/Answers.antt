use Rattle.sieve.proofs.strike.Strikes.{striking_turn}
use Rattle.sieve.proofs.strike.strike.Goals as goal

pub loop-h-preserved : goal.loop-h-preserved
loop-h-preserved c = search striking_turn
