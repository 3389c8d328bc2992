-- The laws on which the proofs of `writer` rest.
mod WriteFaults
mod WrittenBits
mod WriteAnswers
