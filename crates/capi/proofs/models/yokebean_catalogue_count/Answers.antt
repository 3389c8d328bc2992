-- Where the call is refused, the count is 0.
use Rattle.std.proofs.Common.{◌∙◌}
use Rattle.refusal.proofs.Refused.{refused}
use Rattle.catalogue.proofs.Answers.{count_refused}
use Rattle.capi.proofs.models.yokebean_catalogue_count.Goals as goal

pub returns-in-Err-clause-count_value : goal.returns-in-Err-clause-count_value
returns-in-Err-clause-count_value c = count_refused _ _ (λ z. refused _ (c.in-Err.ensures.number_value ∙ z))
