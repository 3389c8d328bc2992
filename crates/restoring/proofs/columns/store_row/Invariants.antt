-- Before turn c the sums from the c-th on are left to be stored.
use Rattle.std.proofs.Common.{◌≡◌, ◌+◌, drop}
use Rattle.std.proofs.lemmas.List.Edits.{sets}
use Rattle.restoring.proofs.columns.store_row.Given as goal

abbrev pub invariant-loop-c : goal.invariant-loop-c
invariant-loop-c g l = sets l.out (l.k + l.c) (drop l.c l.sums) ≡ sets l.initial.out l.k l.sums
