-- Before each turn some blocks are there, `to` words in all.
use mathlib.Core.Path.{◌≡◌}
use Prim.Native.Nat.{◌-◌, ◌*◌, ◌≤◌, ◌<◌}
use Rattle.sieve.proofs.plane.Blocks.{Doubled}
use Rattle.sieve.proofs.plane.extend.Given as goal

abbrev pub invariant-loop-to : goal.invariant-loop-to
invariant-loop-to l = (l.v < l.p) × (1 ≤ l.to) × (l.to ≤ l.end) × (l.end ≡ l.p * l.size) × Doubled l.p l.size l.c l.to l.v l.initial.xs l.xs

abbrev pub decreases-loop-to : goal.decreases-loop-to
decreases-loop-to l = l.end - l.to
