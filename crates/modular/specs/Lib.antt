-- What the contracts on words cite: the test for primes, the inverse, and what reduction by a reciprocal needs.
pub mod Prime
pub mod Inverse
pub mod Reciprocal
