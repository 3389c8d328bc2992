-- The laws on which the proofs of `compare` rest.
mod Comparison
