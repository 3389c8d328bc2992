-- Before turn k the matrix has its first k columns, and w is the last of them.
use mathlib.Core.Path.{◌≡◌}
use Prim.Native.Nat.{◌-◌}
use lib.ListN.{take}
use Rattle.array.specs.Array.{padded}
use Rattle.matrix.specs.Matrix.{multiple, Multiples}
use Rattle.matrix.proofs.multiples.multiples.Given as goal

abbrev pub invariant-loop-k : goal.invariant-loop-k
invariant-loop-k l = (l.w ≡ padded (multiple l.t.d.p (take l.t.n l.t.words) (take l.t.n l.s) (l.k - 1))) × Multiples l.t.d.p l.k (take l.t.n l.t.words) (take l.t.n l.s) l.m
