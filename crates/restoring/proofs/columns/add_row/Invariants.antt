-- Before turn c the words are added to the first c sums.
use Rattle.std.proofs.Common.{◌≡◌, length}
use Rattle.restoring.proofs.columns.Sums.{Adding}
use Rattle.restoring.proofs.columns.add_row.Given as goal

abbrev pub invariant-loop-c : goal.invariant-loop-c
invariant-loop-c g l = (length l.sums ≡ g.row.W) × Adding l.k l.c l.table l.initial.sums l.sums
