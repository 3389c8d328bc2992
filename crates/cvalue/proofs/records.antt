-- What the proofs of records use.
mod Laws
