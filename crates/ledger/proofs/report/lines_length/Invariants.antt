-- The sum is the length of the lines of the records before the index.
use mathlib.Core.Path.{◌≡◌}
use Prim.Native.Nat.{◌*◌, ◌≤◌}
use lib.ListN.{length, take}
use Rattle.ledger.specs.Ledger.{lines}
use Rattle.ledger.proofs.report.lines_length.Given as goal

abbrev pub invariant-loop-entry : goal.invariant-loop-entry
invariant-loop-entry l = (l.sum ≡ length (lines (take l.entry-index l.records))) × (l.sum ≤ l.entry-index * 23)
