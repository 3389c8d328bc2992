-- What the proofs of `store` use.
mod Laws
