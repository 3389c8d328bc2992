-- The coefficients before the index are written.
use lib.ListN.{take}
use Rattle.text.specs.Text.{Appended}
use Rattle.sheet.specs.Sheet.{columns}
use Rattle.sheet.proofs.coefficient.put_coefficients.Given as goal

abbrev pub invariant-loop-v : goal.invariant-loop-v
invariant-loop-v l = Appended l.at (columns 7 l.p (take l.v-index l.u)) l.initial.text l.text l.end
