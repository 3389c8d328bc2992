-- The digits, and the newline behind them.
use Rattle.ledger.proofs.report.Laws.{digits_room, newline_room, number_append}
use Rattle.ledger.proofs.report.put_number.Goals as goal

pub put_decimal-end-requires : goal.put_decimal-end-requires
put_decimal-end-requires c = search digits_room

pub put_byte-requires : goal.put_byte-requires
put_byte-requires c = search newline_room

pub returns : goal.returns
returns c = search number_append
