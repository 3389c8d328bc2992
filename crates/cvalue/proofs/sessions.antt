-- What the proofs of sessions use.
mod Laws
