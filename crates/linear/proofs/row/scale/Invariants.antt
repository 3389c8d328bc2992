-- `scale` gives a row operation. The loop's invariant: the factor is the number handed over, modulo p; the columns from c to j − 1 of row c are written, and
-- the rest is as it was. Of that number only its product with the pivot is used.
use mathlib.Core.Path.{◌≡◌}
use Prim.Native.Nat.{◌%◌, ◌<◌}
use Rattle.linear.proofs.row.Write.{Written}
use Rattle.linear.proofs.row.RowStep.{scaled}
use Rattle.linear.proofs.row.scale.Given as goal

abbrev pub invariant-loop-j : goal.invariant-loop-j
invariant-loop-j l = (l.a ≡ l.inverse % l.d.p) × (l.a < l.d.p) × Written (scaled l.d.p l.a l.initial.m l.c) l.c l.c l.j l.initial.m l.m
