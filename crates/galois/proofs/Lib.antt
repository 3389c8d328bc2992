-- The theory of eigenvectors of the p-th power, and of towers of equations v^p = v + a where n is a power of p: they exist, decide whether T has a proper divisor, and carry roots from one
-- field to another.
mod Eigenvector
mod Independence
pub mod Express
pub mod Transfer
pub mod Generators
pub mod FirstNonZero
pub mod ResidueEigenvector
pub mod ResidueConstants
pub mod RootIndependent
pub mod Irreducible
pub mod NoDivisor
pub mod Binomial
pub mod Generates
pub mod Alpha
pub mod Scalings
pub mod Root
pub mod KernelDecides
mod Traces
mod Tower
mod ArtinSchreier
pub mod ScaledEquation
mod CommonRelation
pub mod Rounds
pub mod Exponent
