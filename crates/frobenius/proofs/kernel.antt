-- The laws on which the proofs of `kernel` rest.
mod FrobeniusSystem
mod Resolvent
