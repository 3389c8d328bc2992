-- Begin, feed and end: their numbers and answers.
pub mod Running
pub mod OverPair
