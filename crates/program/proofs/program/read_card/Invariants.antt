-- Before each turn the card begins with the bytes that were read.
use Rattle.std.proofs.Common.{◌≡◌, ◌-◌, ◌≤◌, length, take}
use Rattle.std.specs.Io.KnownBytes.{Consumes}
use Rattle.program.proofs.program.read_card.Given as goal

abbrev pub invariant-loop-at : goal.invariant-loop-at
invariant-loop-at g l = (length l.card ≡ 167) × (l.at ≤ 167) × Consumes (g.R.Read.remaining l.initial.reader) (g.R.Read.remaining l.reader) (take l.at l.card)

abbrev pub decreases-loop-at : goal.decreases-loop-at
decreases-loop-at g l = 167 - l.at
