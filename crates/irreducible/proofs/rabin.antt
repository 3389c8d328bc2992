-- The laws on which the proofs of `rabin` rest.
mod Primes
mod Test
mod Decision
