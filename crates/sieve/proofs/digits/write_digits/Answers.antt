use Rattle.array.proofs.Painted.{painted_none, painted_turn}
use Rattle.sieve.proofs.digits.Turns.{rest_all, rest_digit, rest_turn, digits_written}
use Rattle.sieve.proofs.digits.write_digits.Goals as goal

pub loop-word-init : goal.loop-word-init
loop-word-init c = (search rest_all, search painted_none)

pub loop-word-preserved : goal.loop-word-preserved
loop-word-preserved c = (search rest_turn, search (painted_turn, rest_digit))

pub returns : goal.returns
returns c = search digits_written
