-- What the contracts on traces cite.
pub mod Sums
