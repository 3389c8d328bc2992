-- The words of a list modulo p, as a table.
--   remainder p w k   word k of w modulo p
use mathlib.Core.Path.{◌≡◌, refl, ap}
use mathlib.Core.List.{List, [], ◌∷◌}
use Prim.Native.Nat.{ℕ, zero, suc, ◌%◌, ◌≤◌}
use native.Mathlib.Omega.{arith}
use lib.ListN.{length, get_or, take}
use Rattle.residue.specs.Delayed.{reduced}
use Rattle.array.proofs.Painted.{table}

unfoldable pub remainder : ℕ → List ℕ → ℕ → ℕ
remainder p w k = get_or w k 0 % p

pub table-remainder : (p n : ℕ) (w : List ℕ) → n ≤ length w → table (remainder p w) n ≡ reduced p (take n w)
unfolding table remainder reduced
table-remainder p zero w h = refl
table-remainder p (suc n) [] h = absurd (omega arith)
table-remainder p (suc n) (a ∷ w) h = ap (λ l. a % p ∷ l) (table-remainder p n w (omega arith))
