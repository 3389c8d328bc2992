-- The examples, computed; lists of lists that a search goes through, and refusals, for short computations.
pub mod Examples
pub mod CardExamples
pub mod SheetExamples
pub mod LedgerExamples
pub mod MapsExamples
pub mod MatrixExamples
pub mod DifferencesExamples
pub mod CatalogueExamples
pub mod TowerExamples
pub mod OpenTableExamples
mod Listed
mod ListedTower
mod Refused
