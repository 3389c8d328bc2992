-- Sessions as C has them.
pub mod Values
pub mod Inner
