-- The laws on which the proofs of the loops over the marks rest.
mod Loops
