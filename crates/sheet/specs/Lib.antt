-- The printed sheet: what it is, and what is proved of it.
pub mod Sheet
pub mod Theorem
