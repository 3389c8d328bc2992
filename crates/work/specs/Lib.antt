-- What is held, the open table and the waiting session; what such a value counts as; the numbers by
-- where it is; and what calls give.
pub mod Work
pub mod Counted
pub mod Number
pub mod Step
