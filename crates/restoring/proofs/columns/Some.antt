-- How many columns are restored at a time, by the number n of columns.
use mathlib.Core.Path.{◌≡◌}
use mathlib.Core.List.{List}
use Prim.Native.Nat.{ℕ, ◌+◌, ◌≤◌, ◌<◌}
use native.Mathlib.Decide.{dec_lt}
use native.Mathlib.Omega.{arith}
use borrow.Author.Tests.{lt-ltb, le-ltb}
use lib.ListN.{length}
use Rattle.differences.specs.Differences.{restored}
use Rattle.restoring.specs.Clauses.{Columns, width}

pub width_one : (n : ℕ) → n < 4 → 1 ≡ width n
unfolding width
width_one n h = rw (width, lt-ltb n 4 h)

pub width_four : (n : ℕ) → 4 ≤ n → n < 8 → 4 ≡ width n
unfolding width
width_four n l h = rw (width, le-ltb n 4 l, lt-ltb n 8 h)

pub width_eight : (n : ℕ) → 4 ≤ n → 8 ≤ n → 8 ≡ width n
unfolding width
width_eight n l h = rw (width, le-ltb n 4 l, le-ltb n 8 h)

-- at least one, and no more than there are
pub width_bounds : (n : ℕ) → 1 ≤ n → (1 ≤ width n) × (width n ≤ n)
width_bounds n positive = go (dec_lt n 4) (dec_lt n 8)
  where
    go : Dec (n < 4) → Dec (n < 8) → (1 ≤ width n) × (width n ≤ n)
    go (yes l) m = omega (arith, width_one n l)
    go (no l) (yes m) = omega (arith, width_four n (omega arith) m)
    go (no l) (no m) = omega (arith, width_eight n (omega arith) (omega arith))

-- w columns, where w are restored at a time: they are in the table, and they are those that are promised

pub width_fits : (n j w : ℕ) → w ≡ width n → j + width n ≤ n → j + w ≤ n
width_fits n j w e room = omega arith

pub width_columns : (n j w : ℕ) (table old out : List ℕ) → w ≡ width n → Columns n j w (length table) (restored n table) old out
    → Columns n j (width n) (length table) (restored n table) old out
width_columns n j w table old out e new = rw e at new
