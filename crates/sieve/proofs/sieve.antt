-- The laws on which the proofs of the sieve's loops rest.
mod Kept
mod Progress
mod Passing
mod Degree
mod Degrees
