-- Nothing outside the catalogue of pairs.
pub mod Theorem
