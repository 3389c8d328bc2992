use Rattle.card.proofs.Width.{width_digits}
use Rattle.card.proofs.layout.width.Goals as goal

pub returns : goal.returns
returns c = width_digits _ _ c.requires c.saturating_sub.ensures
