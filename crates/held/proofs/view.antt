-- What the proofs of `counts_as` and the functions below it use.
mod Laws
