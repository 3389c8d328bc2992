-- `print::answer_job` prints what the finder decides.
use Rattle.std.proofs.Common.{arith, refl}
use Rattle.refusal.proofs.Refused.{refused}
use Rattle.answer.proofs.Printed.{job_refusal, job_writable, job_line}
use Rattle.program.proofs.print.answer_job.Goals as goal

pub print_card-requires : goal.print_card-requires
print_card-requires c = (job_writable _ _ _ _ _ c.in-Ok.ensures refl c.requires.3, omega arith)

pub returns-in-Ok : goal.returns-in-Ok
returns-in-Ok c = job_line _ _ _ _ _ c.in-Ok.ensures refl _ _ c.print_card.ensures

pub returns-in-Err : goal.returns-in-Err
returns-in-Err c = job_refusal _ _ _ _ _ c.in-Err.ensures _ _ (refused _) (rw c.into.ensures at c.put_refusal.ensures)
