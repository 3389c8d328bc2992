-- The laws on which the proofs of `print` rest.
mod FourLists
mod Numbers
