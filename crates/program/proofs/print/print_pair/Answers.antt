-- `print::print_pair` prints what the checker and the congruences decide.
use Rattle.std.proofs.Common.{refl}
use Rattle.refusal.proofs.Refused.{refused}
use Rattle.answer.proofs.Printed.{check_valid, check_ring, check_refusal}
use Rattle.program.proofs.print.print_pair.Goals as goal

pub returns-in-Ok : goal.returns-in-Ok
returns-in-Ok c = check_valid _ _ _ _ _ _ _ c.in-Ok.ensures c.requires.1 _ _ refl c.put_valid.ensures

pub returns-then-congruences_hold : goal.returns-then-congruences_hold
returns-then-congruences_hold c =
    check_ring _ _ _ _ _ _ _ c.in-Err.ensures c.requires.1 (refused _) _ c.congruences_hold.ensures _ _ c.if-congruences_hold.true c.put_ring.ensures

pub returns-else-congruences_hold : goal.returns-else-congruences_hold
returns-else-congruences_hold c =
    check_refusal _ _ _ _ _ _ _ c.in-Err.ensures c.requires.1 (refused _) _ c.congruences_hold.ensures _ _ c.if-congruences_hold.false (rw c.into.ensures at c.put_refusal.ensures)
