-- The laws on which the proofs of `newton` rest.
mod TraceLoop
