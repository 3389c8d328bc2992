-- The laws on which the proofs of `equation` rest.
mod Congruences
mod System
mod Answer
mod FirstWord
