-- `opposite` compares the words of u + v with 0 one by one: those from i on decide.
use lib.ListN.{take}
use Rattle.quotient.specs.Residue.{sum, constant}
use Rattle.comparison.proofs.equality.Comparison.{Left}
use Rattle.comparison.proofs.equality.opposite.Given as goal

abbrev pub invariant-loop-i : goal.invariant-loop-i
invariant-loop-i l = Left l.n (sum l.p (take l.n l.u) (take l.n l.v)) (constant l.n 0) l.i
