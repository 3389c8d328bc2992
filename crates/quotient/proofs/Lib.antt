-- The theory of residues modulo a monic polynomial.
pub mod Action
pub mod Operations
pub mod Sums
pub mod TimesX
pub mod Ring
pub mod Evaluation
pub mod Reduction
pub mod Substitution
pub mod SumOfPowers
mod Remainder
pub mod Listing
pub mod Numbering
pub mod Divisor
pub mod Decision
pub mod Descent
pub mod Units
pub mod Cofactor
pub mod Multiples
pub mod Field
pub mod FieldModulus
pub mod Frobenius
pub mod Conjugates
pub mod Theorem
