use Rattle.std.proofs.Common.{rules}
use Rattle.card.proofs.Places.{field_starts, field_turn, field_turn_small, field_end_below, byte_fits}
use Rattle.writer.proofs.writer.WrittenBits.{byte_end}
use Rattle.writer.proofs.writer.byte.Goals as goal

pub loop-j-init : goal.loop-j-init
loop-j-init c = (search field_starts, search rules)

pub loop-j-preserved : goal.loop-j-preserved
loop-j-preserved c = (search (field_turn, byte_fits), search (field_turn_small, byte_fits, rules))

pub overflow_cast-result : goal.overflow_cast-result
overflow_cast-result c = record { fits = search (field_end_below, byte_fits) }

pub returns : goal.returns
returns c = search byte_end
