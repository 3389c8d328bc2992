-- Before turn i the first i words of the product are written.
use mathlib.Core.Path.{◌≡◌}
use Rattle.array.proofs.Painted.{painted}
use Rattle.matrix.proofs.product.ProductLoop.{product_word}
use Rattle.matrix.proofs.words.multiply_few.Given as goal

abbrev pub invariant-loop-i : goal.invariant-loop-i
invariant-loop-i g l = l.out ≡ painted l.initial.out (product_word l.d.p l.m l.u) l.i
