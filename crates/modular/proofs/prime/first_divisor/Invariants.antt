-- None of the numbers before q divides p, so those from q on decide.
use mathlib.Core.Path.{◌≡◌}
use lib.ListN.{drop}
use Rattle.modular.specs.Prime.{first_divisor}
use Rattle.modular.proofs.prime.first_divisor.Given as goal

abbrev pub invariant-loop-q : goal.invariant-loop-q
invariant-loop-q l = first_divisor l.p l.numbers ≡ first_divisor l.p (drop l.q-index l.numbers)
