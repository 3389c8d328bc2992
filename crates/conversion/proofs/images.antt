-- What the proofs of the images use.
mod Laws
