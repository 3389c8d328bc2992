-- What it means that 1 to 4 do not apply, and the laws on which the proofs of the tests rest.
pub mod Lists
pub mod Order
pub mod Models
pub mod Tests
pub mod Written
pub mod Refused
