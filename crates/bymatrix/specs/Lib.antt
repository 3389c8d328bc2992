-- Conversion by matrix: what the two calls write, what is proved of it, and the definitions of the contracts between their functions.
pub mod ByMatrix
pub mod Theorem
pub mod Clauses
