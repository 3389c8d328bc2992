-- The laws on which the proofs of `words` rest.
mod WordLoop
