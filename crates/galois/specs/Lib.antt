-- Eigenvectors of the p-th power, the rounds of Algorithm 4.1, and the powers of a residue as a basis.
pub mod Eigenvector
pub mod Express
pub mod Tower
