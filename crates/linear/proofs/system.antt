-- The laws on which the proofs of `system` rest.
mod Sum
mod Vectors
mod Kernel
mod Answer
