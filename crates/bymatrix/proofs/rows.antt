-- What the proofs of `rows` use.
mod Loops
