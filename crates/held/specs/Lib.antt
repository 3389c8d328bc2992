-- What a session holds: empty, loaded or paired, and what a value counts as.
pub mod Held
pub mod ViewState
