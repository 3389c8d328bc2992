-- What the proofs of addressing use.
mod Laws
