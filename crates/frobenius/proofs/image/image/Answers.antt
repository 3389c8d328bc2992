-- `image`: the polynomial, applied to the other powers, is the value.
use Rattle.frobenius.proofs.image.PowerSystem.{image_is}
use Rattle.frobenius.proofs.image.image.Goals as goal

pub returns : goal.returns
returns c = search image_is
