-- The laws on which the proofs of `congruence` rest.
mod TwoTests
