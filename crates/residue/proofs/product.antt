-- The laws on which the proofs of `product` rest.
mod Rows
mod Tops
mod Joined
mod TwoRows
mod TwoSteps
mod Pairs
mod OddDegree
mod JoinLoop
mod ShiftLoop
