-- Where 1 and 2 do not apply, the words decide.
use Rattle.std.proofs.Common.{sym, ◌∙◌}
use Rattle.held.proofs.view.Laws.{not_prime, no_degree, degree_fits, words_decide}
use Rattle.held.proofs.view.models_valid.Goals as goal
use Rattle.held.proofs.view.models_valid.Goals.{then-is_prime, else-is_prime}

pub both_below-requires : goal.both_below-requires
both_below-requires c =
    elim c.if-is_prime.branch [ then-is_prime w ↦ degree_fits _ _ w.is_degree.ensures (sym w.value-is ∙ c.if-is_degree.true) | else-is_prime w ↦ cc ]

pub returns-then-is_degree : goal.returns-then-is_degree
returns-then-is_degree c =
    elim c.if-is_prime.branch [
      | then-is_prime w ↦
          words_decide _ _ _ c.is_prime.ensures w.if-is_prime.true _ w.is_degree.ensures _ _ (sym w.value-is ∙ c.if-is_degree.true) c.both_below.ensures
      | else-is_prime w ↦ cc
    ]

pub returns-else-is_degree : goal.returns-else-is_degree
returns-else-is_degree c =
    elim c.if-is_prime.branch [
      | then-is_prime w ↦ c.if-is_degree.false ∙ no_degree _ _ _ c.is_prime.ensures w.if-is_prime.true _ w.is_degree.ensures _ (sym w.value-is ∙ c.if-is_degree.false)
      | else-is_prime w ↦ c.if-is_degree.false ∙ not_prime _ _ _ c.is_prime.ensures _ w.if-is_prime.false
    ]
