-- What is proved of the ledger.
--   AddedBehind         a record that is added stands behind those that counted
--   ReportDetermines    the report determines the records: "Buyers on the yearly plan reconcile their own counts with ours"
use Rattle.std.specs.Prelude.{◌≡◌, List, [], ◌∷◌, ◌++◌, ◌<◌, length}
use Rattle.ledger.specs.Ledger.{most_records, records_of, added, report}
use Rattle.ledger.specs.declared.Ledger.{Ledger}
use Rattle.ledger.specs.declared.Record.{Record}

abbrev pub AddedBehind : Type 0
AddedBehind =
    (l : Ledger) (x : Record) → length l.records ≡ most_records → l.count < most_records → records_of (added l x) ≡ records_of l ++ (x ∷ [])

abbrev pub ReportDetermines : Type 0
ReportDetermines = (xs ys : List Record) → report xs ≡ report ys → xs ≡ ys
