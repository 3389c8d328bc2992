-- The laws on which the proofs of `job` rest.
mod JobWords
mod PairCard
