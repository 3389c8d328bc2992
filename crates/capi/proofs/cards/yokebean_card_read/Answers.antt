-- Where the card is refused, every field but the number is 0.
use Rattle.card.proofs.RefusedFields.{refused_prime, refused_degree, refused_kind}
use Rattle.capi.proofs.cards.yokebean_card_read.Goals as goal

pub returns-in-Err-clause-p_value : goal.returns-in-Err-clause-p_value
returns-in-Err-clause-p_value c = refused_prime _ _ _ c.in-Err.ensures.number

pub returns-in-Err-clause-n_value : goal.returns-in-Err-clause-n_value
returns-in-Err-clause-n_value c = refused_degree _ _ _ c.in-Err.ensures.number

pub returns-in-Err-clause-kind_value : goal.returns-in-Err-clause-kind_value
returns-in-Err-clause-kind_value c = refused_kind _ _ _ c.in-Err.ensures.number
