-- The laws on which the proofs of `construct` rest.
mod Numbers
mod OkOr
mod Constructed
mod FromEigenvectors
mod FromRounds
