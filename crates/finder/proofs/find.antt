-- The laws on which the proofs of `find` rest.
mod FindAnswer
