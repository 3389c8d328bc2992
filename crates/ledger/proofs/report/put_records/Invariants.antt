-- The lines of the records before the index are written.
use lib.ListN.{take}
use Rattle.text.specs.Text.{Appended}
use Rattle.ledger.specs.Ledger.{lines}
use Rattle.ledger.proofs.report.put_records.Given as goal

abbrev pub invariant-loop-entry : goal.invariant-loop-entry
invariant-loop-entry l = Appended 0 (lines (take l.entry-index l.records)) l.initial.text l.text l.end
