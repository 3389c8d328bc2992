-- The law on which the proofs of the conjugates' functions rests.
mod SortLoop
