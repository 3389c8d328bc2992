-- The lines, then the two totals.
use Rattle.std.proofs.Common.{ap, ◌∙◌}
use lib.ListN.{length}
use Rattle.ledger.specs.Ledger.{report}
use Rattle.ledger.proofs.report.Laws.{report_has_length}
use Rattle.ledger.proofs.report.report_length.Goals as goal

pub returns : goal.returns
returns c =
    report_has_length _ _ _ _ _ _ c.lines_length.ensures.0 c.total.ensures c.number_length-forward.ensures.0 c.total-2.ensures c.number_length-back.ensures.0
    ∙ ap (λ xs. length (report xs)) c.records-records.ensures
