-- The lines, then the two totals.
use Rattle.std.proofs.Common.{sym, ap, ◌∙◌}
use lib.ListN.{length}
use Rattle.ledger.specs.Ledger.{report}
use Rattle.ledger.proofs.report.Laws.{records_room, forward_room, back_room, whole_report}
use Rattle.ledger.proofs.report.put_report.Goals as goal

pub put_records-totals-requires : goal.put_records-totals-requires
put_records-totals-requires c = records_room _ _ (c.requires.1 ∙ ap (λ xs. length (report xs)) (sym c.records-records.ensures))

pub put_number-back-requires : goal.put_number-back-requires
put_number-back-requires c =
    let room = c.requires.1 ∙ ap (λ xs. length (report xs)) (sym c.records-records.ensures) in
    forward_room _ _ room _ _ c.put_records-totals.ensures c.put_records-totals.auto.text _ c.total.ensures

pub put_number-requires : goal.put_number-requires
put_number-requires c =
    let room = c.requires.1 ∙ ap (λ xs. length (report xs)) (sym c.records-records.ensures) in
    back_room _ _ room _ _ c.put_records-totals.ensures c.put_records-totals.auto.text _ c.total.ensures _ _ c.put_number-back.ensures c.put_number-back.auto.text _
    c.total-2.ensures

pub returns : goal.returns
returns c =
    let room = c.requires.1 ∙ ap (λ xs. length (report xs)) (sym c.records-records.ensures) in
    whole_report _ _ room _ _ c.put_records-totals.ensures c.put_records-totals.auto.text _ c.total.ensures _ _ c.put_number-back.ensures c.put_number-back.auto.text _
    c.total-2.ensures _ _ c.put_number.ensures c.put_number.auto.text
    ∙ ap report c.records-records.ensures
