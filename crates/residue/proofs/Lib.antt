-- Laws on which the proofs of the functions rest.
mod Horner
mod Remainders
mod DelayedProduct
mod Step
pub mod Power
