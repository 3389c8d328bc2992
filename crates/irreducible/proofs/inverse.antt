-- The laws on which the proof of `has_inverse` rests.
mod UnitSystem
