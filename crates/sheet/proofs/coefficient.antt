-- The laws on which the proofs of `coefficient` rest.
mod ReadBack
mod CoefficientLoop
