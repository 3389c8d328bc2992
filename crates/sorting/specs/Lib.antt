-- Sorting by insertion: the definitions of its contracts.
pub mod Sorting
