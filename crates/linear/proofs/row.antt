-- The laws on which the proofs of `row` rest.
mod Combination
mod Write
mod RowStep
mod RowLoop
