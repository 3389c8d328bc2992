-- `is_field`: the modulus holds the list.
use Rattle.irreducible.proofs.OneModulus.{model_range, model_decides}
use Rattle.irreducible.proofs.call.is_field.Goals as goal

pub load-requires : goal.load-requires
load-requires c =
    let range = model_range _ _ _ c.requires in
    record { prime = (c.requires.prime.0, range.0); degree = c.requires.degree; words = c.requires.modulus }

pub is_irreducible-requires : goal.is_irreducible-requires
is_irreducible-requires c = rw c.load.ensures.0 c.requires.prime

pub returns : goal.returns
returns c =
    model_decides _ _ _ c.requires _ c.load.ensures.2 _ (rw (c.load.ensures.0, c.load.ensures.1) at c.is_irreducible.ensures)
