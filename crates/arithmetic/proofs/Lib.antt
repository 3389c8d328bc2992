-- What follows for a call to which no refusal applies, and what its output list then holds.
mod Accepted
mod Answers
