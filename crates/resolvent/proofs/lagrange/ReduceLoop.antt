-- The loop that reduces the sums: 16 terms are few enough.
use mathlib.Core.List.{List}
use Prim.Native.Nat.{ℕ, ◌*◌, ◌≤◌}
use native.Mathlib.Omega.{arith}
use lib.ListN.{get_or}
use Rattle.resolvent.specs.Sums.{Sums}

pub sum_small : (p i : ℕ) (u : List ℕ) → Sums p 16 u → get_or u i 0 ≤ 64 * (p * p)
sum_small p i u h = omega (arith, h.small i)
