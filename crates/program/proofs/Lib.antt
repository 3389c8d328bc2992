-- Lemmas of the program.
mod Answered
