-- Laws of bits and of field cards, in the order in which they rest on each other: bits, fields and bytes; the kinds, the header and what it
-- means that no refusal applies; written cards and cards that are read, up to the theorems; then the laws that the functions' proofs apply.
pub mod Zeros
pub mod Bits
pub mod Fields
pub mod Packed
pub mod Width
pub mod CardKinds
pub mod Header
pub mod Refusals
pub mod RefusedFields
pub mod Written
mod Read
pub mod Theorem
pub mod Places
pub mod Copied
pub mod OneList
