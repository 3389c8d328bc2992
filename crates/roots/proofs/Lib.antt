-- ζ and c exist, and the laws of the searches for them.
pub mod Zeta
pub mod RootOfRatio
mod RootsOfUnity
pub mod Radicands
pub mod Multiples
