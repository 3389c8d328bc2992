-- The laws on which the proofs of `exponent` rest.
mod Powers
