-- The laws of commutative rings and fields, of primes, of polynomials and of finite lists.
pub mod RingLaws
pub mod Modulo
pub mod Euclid
mod Binomial
pub mod Frobenius
pub mod Totals
pub mod Lists
pub mod Places
pub mod Counting
pub mod Search
pub mod FieldLaws
pub mod Roots
pub mod Polynomials
pub mod Units
pub mod PowerRoots
mod Injective
pub mod Order
pub mod OrderExists
pub mod Period
pub mod PrimePowers
pub mod PrimeDivisor
pub mod Equality
pub mod Scan
pub mod Constants
pub mod PowerSums
pub mod Smallest
pub mod NumberScan
pub mod Products
pub mod Subrings
