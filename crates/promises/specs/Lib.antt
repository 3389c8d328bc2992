-- All that is promised, and what the finder makes of listed models.
pub mod Promises
pub mod ListedModels
