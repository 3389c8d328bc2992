-- What the contracts on residues cite beside the definitions of the crate quotient: words whose reduction is put off.
pub mod Delayed
