-- The laws on which the proof of the call rests.
mod Answer
