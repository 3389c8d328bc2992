-- What the calls on residues answer.
pub mod Calls
