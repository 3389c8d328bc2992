-- The laws on which the proofs of `eigenvector` rest.
mod Square
