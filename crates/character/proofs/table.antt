-- The laws on which the proofs of `table` rest.
mod Known
