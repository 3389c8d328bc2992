-- The definitions of the contracts between the functions of the sieve.
pub mod Multiples
pub mod Clauses
