-- The laws on which the proof of the insertion rests.
pub mod Rows
mod InsertLoop
