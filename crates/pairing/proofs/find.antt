-- What the proofs of `find` use.
mod Laws
