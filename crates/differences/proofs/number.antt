-- What the proofs of `number` use.
mod Laws
