-- Before turn j the rows are added to the first j words from word i on, in both arrays.
use Rattle.residue.specs.Delayed.{Added}
use Rattle.residue.proofs.product.add_rows.Given as goal

abbrev pub invariant-loop-j : goal.invariant-loop-j
invariant-loop-j l = Added l.i l.c l.q l.v l.t.words l.j l.initial.e l.e × Added l.i l.b l.r l.v l.t.words l.j l.initial.o l.o
