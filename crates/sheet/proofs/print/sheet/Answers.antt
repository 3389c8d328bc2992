-- A refusal leaves the output list alone; else the four lists are printed.
use mathlib.Core.Path.{refl}
use Rattle.sheet.proofs.print.Numbers.{succeeds, fails, number_is, refused_output, accepted_given, accepted_length, new_output}
use Rattle.sheet.proofs.print.sheet.Goals as goal

pub put_sheet-requires : goal.put_sheet-requires
put_sheet-requires c =
    let none = succeeds _ _ _ c.if-eq.ensures in (
      accepted_given _ _ _ _ _ _ _ _ _ c.sheet_length.ensures c.check_with_output-checked.ensures none,
      accepted_length _ _ _ _ _ _ _ _ _ c.sheet_length.ensures c.check_with_output-checked.ensures none,
    )

pub returns-then-eq-clause-value : goal.returns-then-eq-clause-value
returns-then-eq-clause-value c = number_is _ _ _ _ _ _ _ _ _ c.sheet_length.ensures c.check_with_output-checked.ensures

pub returns-then-eq-clause-out_after : goal.returns-then-eq-clause-out_after
returns-then-eq-clause-out_after c =
    new_output _ _ _ _ _ _ _ _ _ c.sheet_length.ensures c.check_with_output-checked.ensures (succeeds _ _ _ c.if-eq.ensures) _ c.put_sheet.ensures

pub returns-else-eq-clause-value : goal.returns-else-eq-clause-value
returns-else-eq-clause-value c = number_is _ _ _ _ _ _ _ _ _ c.sheet_length.ensures c.check_with_output-checked.ensures

pub returns-else-eq-clause-out_after : goal.returns-else-eq-clause-out_after
returns-else-eq-clause-out_after c =
    refused_output _ _ _ _ _ _ _ _ _ c.sheet_length.ensures c.check_with_output-checked.ensures (fails _ _ _ (λ x. refl) c.if-eq.ensures)
