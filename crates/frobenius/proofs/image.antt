-- The laws on which the proofs of `image` rest.
mod PowerSystem
