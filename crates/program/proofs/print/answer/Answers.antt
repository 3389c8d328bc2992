-- `print::answer` prints what follows from what the reader says of the card.
use Rattle.std.proofs.Common.{arith, refl}
use Rattle.refusal.proofs.Refused.{refused}
use Rattle.answer.proofs.CardModels.{degree_few, job_models, pair_given}
use Rattle.answer.proofs.CardAnswers.{answer_refusal, answer_job, answer_pair, job_number, pair_number}
use Rattle.program.proofs.print.answer.Goals as goal

pub answer_job-requires : goal.answer_job-requires
answer_job-requires c =
    let taken = c.in-Ok.ensures in (
      degree_few _ _ taken.number refl _ taken.said.1,
      omega arith,
      omega arith,
      job_models _ _ taken.number refl _ _ _ _ taken.said.0 taken.said.1 taken.said.2 taken.words (job_number _ c.in-Job.is),
    )

pub returns-in-Job-clause-text : goal.returns-in-Job-clause-text
returns-in-Job-clause-text c =
    let taken = c.in-Ok.ensures in
    answer_job _ _ taken.number refl _ _ _ _ taken.said.0 taken.said.1 taken.said.2 taken.words (job_number _ c.in-Job.is) _ _ c.answer_job.ensures

pub answer_pair-requires : goal.answer_pair-requires
answer_pair-requires c =
    let taken = c.in-Ok.ensures in (
      degree_few _ _ taken.number refl _ taken.said.1,
      omega arith,
      omega arith,
      pair_given _ _ taken.number refl _ _ _ _ taken.said.0 taken.said.1 taken.said.2 taken.words (pair_number _ c.in-Pair.is),
    )

pub returns-in-Pair-clause-text : goal.returns-in-Pair-clause-text
returns-in-Pair-clause-text c =
    let taken = c.in-Ok.ensures in
    answer_pair _ _ taken.number refl _ _ _ _ taken.said.0 taken.said.1 taken.said.2 taken.words (pair_number _ c.in-Pair.is) _ _ c.answer_pair.ensures

pub returns-in-Err-clause-text : goal.returns-in-Err-clause-text
returns-in-Err-clause-text c = answer_refusal _ _ c.in-Err.ensures.number _ _ (refused _) (rw c.into.ensures at c.put_refusal.ensures)
