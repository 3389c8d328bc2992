-- The definitions of the contracts between the functions that restore a table.
pub mod Clauses
