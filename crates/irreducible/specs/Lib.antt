-- Rabin's criterion, and the call for one modulus.
pub mod Rabin
pub mod Irreducible
