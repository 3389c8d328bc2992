-- The laws of sorting by insertion.
pub mod Insertion
