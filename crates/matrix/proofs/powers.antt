-- The laws on which the proofs of `powers` rest.
mod ColumnLoops
mod Columns
