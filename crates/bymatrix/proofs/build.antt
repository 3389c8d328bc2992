-- What the proofs of `build` use.
mod Laws
