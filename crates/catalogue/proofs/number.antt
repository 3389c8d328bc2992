-- The laws on which the proofs of the refusals by p and n rest.
mod Laws
