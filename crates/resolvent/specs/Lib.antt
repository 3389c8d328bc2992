-- What the contracts on the resolvent cite.
pub mod Sums
