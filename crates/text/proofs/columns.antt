-- The laws on which the proofs of `columns` rest.
mod Sign
mod Blanks
mod Right
