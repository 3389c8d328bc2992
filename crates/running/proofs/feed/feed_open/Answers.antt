-- The output is written, and the residues counted, only where nothing is refused.
use Rattle.std.proofs.Common.{refl}
use Rattle.refusal.proofs.Refused.{refused}
use Rattle.refusal.proofs.Written.{output_new, output_old}
use Rattle.conversion.proofs.Numbers.{degree_positive}
use Rattle.work.proofs.Answers.{work_refused}
use Rattle.running.specs.Running.{feed_as, feed_output_as}
use Rattle.running.proofs.feed.Laws.{part_given, held_positive, part_fits, fed_fits, feeds}
use Rattle.running.proofs.feed.feed_open.Goals as goal

pub check_part-requires : goal.check_part-requires
check_part-requires c = search degree_positive

pub returns-in_err-check_part-clause-value : goal.returns-in_err-check_part-clause-value
unfolding feed_as
returns-in_err-check_part-clause-value c = work_refused _ _ _ c.from_residual.ensures.1 c.in_err-check_part.ensures

pub returns-in_err-check_part-clause-out_after : goal.returns-in_err-check_part-clause-out_after
unfolding feed_output_as
returns-in_err-check_part-clause-out_after c = output_old _ _ _ _ c.in_err-check_part.ensures (refused _)

pub images-requires-clause-convertible : goal.images-requires-clause-convertible
images-requires-clause-convertible c = part_given _ _ _ _ _ 0 c.in_ok-check_part.ensures refl

pub nonzero_div-residues : goal.nonzero_div-residues
nonzero_div-residues c = search held_positive

pub overflow_cast-fed : goal.overflow_cast-fed
overflow_cast-fed c = part_fits _ _ _ _ _ 0 c.in_ok-check_part.ensures refl

pub overflow_add-fed : goal.overflow_add-fed
overflow_add-fed c = fed_fits _ _ _ _ _ 0 c.in_ok-check_part.ensures refl _ refl

pub returns-clause-value : goal.returns-clause-value
returns-clause-value c = feeds _ _ _ _ 0 c.in_ok-check_part.ensures refl

pub returns-clause-out_after : goal.returns-clause-out_after
unfolding feed_output_as
returns-clause-out_after c = output_new 0 _ _ _ _ c.in_ok-check_part.ensures refl c.images.ensures
