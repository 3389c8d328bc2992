-- What the proofs of begin use.
mod Laws
