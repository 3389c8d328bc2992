-- The laws on which the proofs of `conjugate` rest.
mod Iteration
