-- What the proofs of feed use.
mod Laws
