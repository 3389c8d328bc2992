-- `writer::write`: refused, nothing is written; else the list is the card.
use Rattle.writer.proofs.writer.WriteAnswers.{write_refused, write_accepted, prime_fits, degree_there, width_there, room_exact, room_most}
use Rattle.writer.proofs.writer.write.Goals as goal

pub returns-in_err-accept-clause-output : goal.returns-in_err-accept-clause-output
returns-in_err-accept-clause-output c = write_refused _ _ _ _ _ _ c.in_err-accept.ensures

pub width-requires : goal.width-requires
width-requires c = prime_fits _ _ _ _ _ c.in_ok-accept.ensures

pub write_bytes-requires : goal.write_bytes-requires
write_bytes-requires c =
    let taken = c.in_ok-accept.ensures in
    (degree_there _ _ _ _ _ taken, width_there _ _ _ _ _ taken _ c.width.ensures.0, c.width.ensures.1, c.width.ensures.0, room_exact _ _ _ _ _ taken, room_most _ _ _ _ _ taken)

pub returns-clause-output : goal.returns-clause-output
returns-clause-output c = write_accepted _ _ _ _ _ c.in_ok-accept.ensures _ c.write_bytes.ensures
