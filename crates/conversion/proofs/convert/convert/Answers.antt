-- The output is written only where nothing is refused.
use Rattle.std.proofs.Common.{refl}
use Rattle.refusal.proofs.Refused.{refused}
use Rattle.refusal.proofs.Written.{output_new, output_old}
use Rattle.work.proofs.Answers.{record_refused}
use Rattle.conversion.specs.Conversion.{convert, convert_output}
use Rattle.conversion.proofs.Numbers.{number_paired, table_given, divisor_positive, residues_fit, converted}
use Rattle.conversion.proofs.convert.convert.Goals as goal

pub returns-in_err-check-clause-value : goal.returns-in_err-check-clause-value
unfolding convert
returns-in_err-check-clause-value c = record_refused _ _ _ c.from_residual.ensures.1 c.in_err-check.ensures

pub returns-in_err-check-clause-out_after : goal.returns-in_err-check-clause-out_after
unfolding convert_output
returns-in_err-check-clause-out_after c = output_old _ _ _ _ c.in_err-check.ensures (refused _)

pub images-requires-clause-paired : goal.images-requires-clause-paired
images-requires-clause-paired c = number_paired c.args.direction _ _ _ _ 0 c.in_ok-check.ensures refl

pub images-requires-clause-convertible : goal.images-requires-clause-convertible
images-requires-clause-convertible c = table_given c.args.direction _ _ _ _ 0 c.in_ok-check.ensures refl

pub nonzero_div-residues : goal.nonzero_div-residues
nonzero_div-residues c = divisor_positive c.args.direction _ _ _ _ 0 c.in_ok-check.ensures refl

pub overflow_cast-entry : goal.overflow_cast-entry
overflow_cast-entry c = residues_fit c.args.direction _ _ _ _ 0 c.in_ok-check.ensures refl

pub returns-clause-value : goal.returns-clause-value
returns-clause-value c = converted _ _ _ _ _ 0 c.in_ok-check.ensures refl

pub returns-clause-out_after : goal.returns-clause-out_after
unfolding convert_output
returns-clause-out_after c = output_new 0 _ _ _ _ c.in_ok-check.ensures refl c.images.ensures
