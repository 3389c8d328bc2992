-- What the program prints, what the contracts on a job cite, and what is proved of the text.
pub mod Answer
pub mod JobWords
pub mod Theorem
