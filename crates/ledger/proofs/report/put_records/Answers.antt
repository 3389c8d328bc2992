use Rattle.ledger.proofs.report.Laws.{no_lines, next_room, next_line}
use Rattle.ledger.proofs.report.put_records.Goals as goal

pub loop-entry-init : goal.loop-entry-init
loop-entry-init c = search no_lines

pub put_record-end-requires : goal.put_record-end-requires
put_record-end-requires c = search next_room

pub loop-entry-preserved : goal.loop-entry-preserved
loop-entry-preserved c = search next_line
