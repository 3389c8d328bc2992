-- Before turn j the first j entries are those of the next step, and `carry` is the word that the last turn overwrote.
use mathlib.Core.Path.{◌≡◌}
use mathlib.Core.List.{◌∷◌}
use lib.ListN.{get_or}
use Rattle.array.proofs.Painted.{painted}
use Rattle.residue.proofs.Horner.{term}
use Rattle.residue.proofs.ring.step.Given as goal

abbrev pub invariant-loop-j : goal.invariant-loop-j
invariant-loop-j l = (l.carry ≡ get_or (0 ∷ l.initial.w) l.j 0) × (l.w ≡ painted l.initial.w (term l.q 0 0 l.t.words l.t.words l.initial.w) l.j)
