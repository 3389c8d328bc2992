-- The laws on which the proofs of `lagrange` rest.
mod AddLoop
mod TermLoop
mod ReduceLoop
