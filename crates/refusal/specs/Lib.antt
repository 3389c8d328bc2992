-- The refusals and their numbers, 1 to 4 and their order, and what they leave.
pub mod Number
pub mod Refusal
pub mod Models
