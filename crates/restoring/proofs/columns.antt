-- What the proofs of `columns` use.
mod Places
mod Rows
mod Sums
mod Some
mod Across
