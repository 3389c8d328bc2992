-- What the proofs of the numbers use.
pub mod Laws
