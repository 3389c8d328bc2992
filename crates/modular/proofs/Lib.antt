-- Laws of words modulo p, of the test for primes and of reduction by a reciprocal.
pub mod Remainder
pub mod Factors
pub mod IsPrime
pub mod Inverse
pub mod Field
