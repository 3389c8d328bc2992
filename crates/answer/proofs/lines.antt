-- The laws on which the proofs of `lines` rest.
mod OneLine
