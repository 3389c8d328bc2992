-- What the contract on M − z cites.
pub mod Shifted
