-- The finder's mathematics, demand 3, the triangle, and the laws on which the proofs of its functions rest.
pub mod Construction
pub mod Findable
pub mod Eigenvectors
mod Towers
pub mod ChosenPair
mod Values
pub mod Theorem
pub mod Triangle
pub mod Rounds
