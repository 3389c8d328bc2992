-- What the callers of the table use.
pub mod Empty
