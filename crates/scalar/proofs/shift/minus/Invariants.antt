-- `minus` subtracts z from the words of the diagonal one after another.
use Rattle.scalar.proofs.shift.DiagonalScan.{Diagonal}
use Rattle.scalar.proofs.shift.minus.Given as goal

abbrev pub invariant-loop-i : goal.invariant-loop-i
invariant-loop-i l = Diagonal l.p l.z l.i l.initial.m l.m
