-- Before turn i there are the words for all H of i words, size of them, and w is X^i·D.
use mathlib.Core.Path.{◌≡◌}
use Prim.Native.Nat.{◌^◌}
use lib.ListN.{take}
use Rattle.array.specs.Array.{padded, Holds}
use Rattle.matrix.specs.Matrix.{multiple}
use Rattle.sieve.specs.Clauses.{Plane}
use Rattle.sieve.proofs.plane.plane.Given as goal

abbrev pub invariant-loop : goal.invariant-loop
invariant-loop l =
    (l.p ≡ l.t.d.p) × (l.size ≡ l.t.d.p ^ l.counter) × (l.w ≡ padded (multiple l.t.d.p (take l.t.n l.t.words) (take l.t.n l.t.words) l.counter)) × Holds l.t.d.p l.t.n l.w
    × Plane l.t.d.p (take l.t.n l.t.words) l.counter l.j l.xs
