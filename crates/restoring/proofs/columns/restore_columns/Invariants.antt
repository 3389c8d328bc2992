-- Before each turn the columns below j are restored; the last turn need not begin with column j.
use mathlib.Core.Path.{◌≡◌}
use Prim.Native.Nat.{◌-◌, ◌≤◌}
use lib.ListN.{length}
use Rattle.differences.specs.Differences.{restored}
use Rattle.restoring.proofs.columns.Across.{Done}
use Rattle.restoring.proofs.columns.restore_columns.Given as goal

abbrev pub invariant-loop-j : goal.invariant-loop-j
invariant-loop-j l = (1 ≤ l.w) × (l.w ≤ l.n) × (length l.out ≡ length l.table) × Done l.n l.j (restored l.n l.table) l.out

abbrev pub decreases-loop-j : goal.decreases-loop-j
decreases-loop-j l = l.n - l.j
