-- Wrapped sums and differences, the words of what the two calls write, loops that write the words of a list, and the proofs of what is promised.
mod Cancel
pub mod Words
mod Back
pub mod Begun
pub mod Given
pub mod Theorem
