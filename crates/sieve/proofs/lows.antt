-- The lower words of all multiples as numbers: the laws of its loops.
pub mod Codes
