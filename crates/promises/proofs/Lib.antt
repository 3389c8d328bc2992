-- The proofs of all promises.
mod Promises
mod ListedModels
