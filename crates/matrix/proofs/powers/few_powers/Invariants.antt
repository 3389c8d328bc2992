-- Before turn j the matrix has its first j columns, and u is the last of them.
use mathlib.Core.Path.{◌≡◌}
use Prim.Native.Nat.{◌-◌}
use lib.ListN.{take}
use Rattle.quotient.specs.Residue.{power}
use Rattle.array.specs.Array.{padded}
use Rattle.matrix.specs.Matrix.{Powers, Kept}
use Rattle.matrix.proofs.powers.few_powers.Given as goal

abbrev pub invariant-loop-j : goal.invariant-loop-j
invariant-loop-j l = (l.u ≡ padded (power l.t.d.p (take l.t.n l.t.words) (take l.t.n l.s) (l.j - 1))) × Powers l.t.d.p l.j (take l.t.n l.t.words) (take l.t.n l.s) l.m × Kept l.t.n l.initial.m l.m
