-- The laws on which the proofs of `prime` rest.
mod FirstDivisor
mod TrialDivision
