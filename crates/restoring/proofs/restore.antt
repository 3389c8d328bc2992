-- What the proofs of `restore` use.
mod Laws
