-- `kernel_vector` fills a vector that the matrix takes to 0. The loop's invariant: the words before j are those of column c, negated.
use Rattle.linear.proofs.system.Kernel.{Filled}
use Rattle.linear.proofs.system.kernel_vector.Given as goal

abbrev pub invariant-loop-j : goal.invariant-loop-j
invariant-loop-j l = Filled l.p l.c l.j l.m l.v
