-- What the proofs of `convert` use.
mod Laws
