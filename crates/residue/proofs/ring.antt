-- The laws on which the proofs of `ring` rest.
mod ReduceLoop
mod TimesX
mod HornerLoop
mod PowerOfX
