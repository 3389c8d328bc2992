-- The laws on which the proofs of `product` rest.
pub mod RowLoop
pub mod ProductLoop
