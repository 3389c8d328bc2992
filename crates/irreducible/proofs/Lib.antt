-- Rabin's criterion, the call for one modulus, and the laws on which the proofs of the functions rest.
pub mod PeriodOfX
mod Differences
mod Criterion
mod OneModulus
pub mod Theorem
