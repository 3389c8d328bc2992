-- `enter`: what is written so far keeps the table.
use Rattle.character.specs.Table.{Table}
use Rattle.character.proofs.table.enter.Given as goal

abbrev pub invariant-loop-i : goal.invariant-loop-i
invariant-loop-i l = Table l.m.p l.k l.c
