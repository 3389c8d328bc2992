-- The laws on which the proofs of `polynomial` rest.
mod RowLoop
