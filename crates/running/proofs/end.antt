-- What the proofs of end use.
mod Laws
