-- All the maps of a pair: the conjugates of a root, and the proofs of what is promised.
mod AllRoots
mod AllMaps
pub mod Theorem
