-- The layout of a matrix in a list, its product with a residue, and the proofs of what is promised.
mod Places
mod Products
mod Inverse
mod Given
pub mod Theorem
