use Rattle.text.proofs.columns.Blanks.{blanks_put}
use Rattle.text.proofs.columns.put_blanks.Goals as goal

pub returns : goal.returns
returns c = blanks_put _ _ _ _ c.requires (c.fill.ensures.after (λ y h. h))
