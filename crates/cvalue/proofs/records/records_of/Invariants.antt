-- Before turn i the first i records stand in the array.
use mathlib.Core.Path.{◌≡◌}
use mathlib.Core.List.{map}
use lib.ListN.{take}
use Rattle.ledger.specs.Ledger.{most_records, none}
use Rattle.cvalue.specs.Values.{record_of, up_to}
use Rattle.cvalue.proofs.records.records_of.Given as goal

abbrev pub invariant-loop-i : goal.invariant-loop-i
invariant-loop-i l = l.records ≡ up_to most_records none (map record_of (take l.i l.v.ledger))
