-- The letter, the blank and the number, one behind another.
use Rattle.ledger.proofs.report.Laws.{letter_room, blank_room, residues_room, line_append}
use Rattle.ledger.proofs.report.put_record.Goals as goal

pub put_byte-blank-requires : goal.put_byte-blank-requires
put_byte-blank-requires c = search letter_room

pub put_byte-digits-requires : goal.put_byte-digits-requires
put_byte-digits-requires c = search blank_room

pub put_number-requires : goal.put_number-requires
put_number-requires c = search residues_room

pub returns : goal.returns
returns c = search line_append
