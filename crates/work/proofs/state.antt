-- What the proofs of the refusals use.
mod Laws
