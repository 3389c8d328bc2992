-- Before the turn for word i − 1, the array holds the value of the words of u from i on.
use mathlib.Core.Path.{◌≡◌}
use lib.ListN.{take, drop}
use Rattle.quotient.specs.Residue.{substitute}
use Rattle.array.specs.Array.{padded}
use Rattle.residue.proofs.ring.substitute.Given as goal

abbrev pub invariant-loop-i : goal.invariant-loop-i
invariant-loop-i l = l.w ≡ padded (substitute l.t.d.p (take l.t.n l.t.words) (take l.t.n l.s) (drop l.i (take l.t.n l.u)))
