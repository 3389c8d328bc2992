-- Before turn i the first i words are in their places.
use Rattle.matrix.specs.Matrix.{Placed}
use Rattle.matrix.proofs.powers.place.Given as goal

abbrev pub invariant-loop-i : goal.invariant-loop-i
invariant-loop-i l = Placed l.i l.j l.u l.initial.m l.m
