-- The laws on which the proofs of `word` rest.
mod Bezout
mod PowerLoop
