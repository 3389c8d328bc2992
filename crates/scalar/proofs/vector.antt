-- The laws on which the proofs of `vector` rest.
mod VectorScan
