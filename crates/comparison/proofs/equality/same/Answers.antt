use mathlib.Core.Path.{◌∙◌}
use Rattle.comparison.proofs.equality.Comparison.{same_words}
use Rattle.comparison.proofs.equality.same.Goals as goal

pub returns : goal.returns
returns c = c.eq.ensures ∙ same_words _ _
