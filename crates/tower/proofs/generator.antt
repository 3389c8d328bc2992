-- The laws on which the proofs of `generator` rest.
mod ArrayRounds
