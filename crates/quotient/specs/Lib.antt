-- Residues modulo a monic polynomial, divisors, and what is proved of them.
pub mod Residue
pub mod Map
pub mod Divisor
pub mod DivisorTest
pub mod Theorem
