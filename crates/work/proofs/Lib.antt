-- What it says of a value that it is valid, what the number 0 says of where it is, and what a `?`
-- returns.
pub mod Valid
pub mod Numbers
pub mod Answers
