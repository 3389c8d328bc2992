-- The checker: two congruences give all four, the moduli are those of fields together, what the answer 0 means, the pairs of degree 1, and the laws of the functions.
pub mod TwoCongruences
mod CongruenceTest
mod Fields
pub mod Refusals
pub mod Theorem
mod DegreeOne
