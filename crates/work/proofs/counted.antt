-- What the proofs of counting use.
mod Laws
