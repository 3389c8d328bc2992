-- What is proved of load, propose and find.
mod Accepted
mod Answer
mod Calls
pub mod Theorem
