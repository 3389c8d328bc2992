-- `conjugate` applies the matrix of u ↦ u^p to X again and again.
use lib.ListN.{take}
use mathlib.Core.Path.{◌≡◌}
use Rattle.array.specs.Array.{padded}
use Rattle.irreducible.specs.Rabin.{conjugate_of_x}
use Rattle.irreducible.proofs.conjugate.conjugate.Given as goal

abbrev pub invariant-loop-i : goal.invariant-loop-i
invariant-loop-i l = l.u ≡ padded (conjugate_of_x l.t.d.p (take l.t.n l.t.words) l._i)
