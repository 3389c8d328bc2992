-- The laws on which the proofs of `root` rest.
mod RootScan
