-- What the laws of this crate speak of: commutative rings and fields, lists as finite sets, primes.
pub mod Ring
pub mod Lists
pub mod Prime
pub mod Search
