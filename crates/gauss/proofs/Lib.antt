-- The polynomial X^(p^n) − X, its divisors, and the proof of Gauss's formula.
pub mod Factors
pub mod PowerMinusX
mod SquareFree
mod DegreeSum
mod ModelList
pub mod Theorem
