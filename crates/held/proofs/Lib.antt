-- What a value counts as.
pub mod Valid
pub mod Contents
