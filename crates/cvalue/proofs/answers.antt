-- What the proofs of answers use.
mod Laws
