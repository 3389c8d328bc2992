-- Laws of row products, row operations and elimination.
pub mod Congruence
mod Pivoting
