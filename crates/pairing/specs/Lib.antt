-- The answers of load, propose and find, and what is proved of them.
pub mod Step
pub mod Pairing
pub mod Theorem
