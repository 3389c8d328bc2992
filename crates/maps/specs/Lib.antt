-- All the maps of a pair: what the call writes, and what is proved of it.
pub mod Maps
pub mod Theorem
