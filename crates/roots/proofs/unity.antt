-- The laws on which the proofs of `unity` rest.
mod OrderScan
