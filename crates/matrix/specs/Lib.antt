-- What the contracts on matrices cite.
pub mod Matrix
