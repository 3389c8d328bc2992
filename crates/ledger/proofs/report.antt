-- What the proofs of `report` use.
mod Laws
