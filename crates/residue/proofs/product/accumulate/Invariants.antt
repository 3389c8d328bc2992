-- Before the turn for the words 2·k − 1 and 2·k − 2 of u, the arrays hold the product of the words of u from 2·k on, and h is its top word.
use mathlib.Core.Path.{◌≡◌}
use Prim.Native.Nat.{◌-◌, ◌*◌}
use lib.ListN.{get_or, take, drop}
use Rattle.quotient.specs.Residue.{product}
use Rattle.residue.specs.Delayed.{joined, Halves}
use Rattle.residue.proofs.product.accumulate.Given as goal

abbrev pub invariant-loop-k : goal.invariant-loop-k
invariant-loop-k l =
    Halves l.t.d.p l.t.n (l.t.n - 2 * l.k) (2 * l.k) (product l.t.d.p (take l.t.n l.t.words) (drop (2 * l.k) (take l.t.n l.u)) (take l.t.n l.v)) l.e l.o
    × (l.h ≡ get_or (joined l.t.n (2 * l.k) l.e l.o) (l.t.n - 1) 0)
