-- Before turn i the first i words of the column are copied.
use mathlib.Core.Path.{◌≡◌}
use Rattle.array.proofs.Painted.{painted}
use Rattle.matrix.proofs.powers.ColumnLoops.{column_word}
use Rattle.matrix.proofs.powers.column.Given as goal

abbrev pub invariant-loop-i : goal.invariant-loop-i
invariant-loop-i l = l.w ≡ painted l.initial.w (column_word l.m l.j) l.i
