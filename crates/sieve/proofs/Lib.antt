-- The mathematics of the sieve: the lower words of multiples, and powers of p.
mod LowerWords
mod Powers
