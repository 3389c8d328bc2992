-- The finder: its values, its answer, demand 3, the scalings, the triangle, stored pairs, and the rounds of the second method.
pub mod Finder
pub mod Construct
pub mod Theorem
pub mod Scalings
pub mod Triangle
pub mod Stored
pub mod Rounds
