-- Before turn j the sum has the first j products, each at most p².
use Rattle.matrix.proofs.product.RowLoop.{RowSum}
use Rattle.matrix.proofs.words.dot_list.Given as goal

abbrev pub invariant-loop-j : goal.invariant-loop-j
invariant-loop-j g l = RowSum l.d.p l.i l.m l.u l.j l.sum
