-- Before turn j the first j words are those of X times the joined words, modulo p.
use mathlib.Core.Path.{◌≡◌}
use lib.ListN.{replicate}
use Rattle.array.proofs.Painted.{painted}
use Rattle.residue.proofs.Remainders.{remainder}
use Rattle.residue.proofs.product.ShiftLoop.{shifted}
use Rattle.residue.proofs.product.reduce_shifted.Given as goal

abbrev pub invariant-loop-j : goal.invariant-loop-j
invariant-loop-j l = l.w ≡ painted (replicate 16 0) (remainder l.t.d.p (shifted l.t.n l.q l.t.words l.e l.o)) l.j
