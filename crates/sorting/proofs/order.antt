-- The laws on which the proofs of the comparison and of the exchange rest.
mod Comparison
mod LowerFirst
