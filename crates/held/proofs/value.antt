-- What the proofs of `loaded` and `paired` use.
mod Laws
