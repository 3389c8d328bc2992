-- The laws on which the proof of `subtract` rests.
mod Subtraction
