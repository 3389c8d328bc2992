-- The matrices of u ↦ u(S), of u ↦ u·S and of u ↦ u^p by their columns, and the loops that fill arrays.
mod Placed
pub mod MultiplicationMatrix
pub mod PowerMatrix
pub mod FrobeniusMatrix
