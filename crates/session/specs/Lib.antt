-- The session: each call's answer, and what the recording goes by.
pub mod Step
pub mod Session
pub mod Room
