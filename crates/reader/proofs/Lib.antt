-- Laws on which the proofs of the reader rest: fields by whole bytes, and the answers.
mod WholeBytes
mod Answers
