-- The laws on which the proofs of `reader` rest.
mod Scans
mod ReadFaults
