-- The pair and its checker: what is accepted, and what acceptance means.
pub mod Pair
pub mod Theorem
