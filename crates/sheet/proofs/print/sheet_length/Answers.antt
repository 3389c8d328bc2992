-- The length by its formula.
use mathlib.Core.Path.{refl}
use Rattle.sheet.specs.Sheet.{sheet_length}
use Rattle.sheet.proofs.print.sheet_length.Goals as goal

pub returns : goal.returns
unfolding sheet_length
returns c = refl
