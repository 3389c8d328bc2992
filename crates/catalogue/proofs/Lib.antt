-- The proofs of the catalogue.
mod Filter
mod Unmarked
pub mod Answers
pub mod Theorem
