-- The laws on which the proofs of `four` rest.
mod PowerTurn
