-- The laws on which the proofs of `multiples` rest.
mod MultipleColumns
