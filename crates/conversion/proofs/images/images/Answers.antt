-- T2 and S, and T1 and R, of a paired value are valid.
use Rattle.conversion.proofs.Numbers.{forward_valid, back_valid}
use Rattle.conversion.proofs.images.Laws.{forward_images, back_images}
use Rattle.conversion.proofs.images.images.Goals as goal

pub convert_words-requires-clause-valid : goal.convert_words-requires-clause-valid
convert_words-requires-clause-valid c = search (forward_valid, back_valid)

pub returns-in-Forward : goal.returns-in-Forward
returns-in-Forward c = search forward_images

pub returns-in-Back : goal.returns-in-Back
returns-in-Back c = search back_images

pub convert_words-requires-in-Back-clause-valid : goal.convert_words-requires-in-Back-clause-valid
convert_words-requires-in-Back-clause-valid c = search (forward_valid, back_valid)
