-- Tables stored as differences: what the two calls write, what is proved of it, and the definition of the contracts between functions.
pub mod Differences
pub mod Theorem
pub mod Clauses
