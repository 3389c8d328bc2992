-- The laws on which the proofs of the functions that strike out rest.
mod Loaded
mod Strikes
mod Multiples
mod Blocks
