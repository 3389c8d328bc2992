-- The laws on which the proofs of `barrett` rest.
mod Shift
mod Reciprocal
