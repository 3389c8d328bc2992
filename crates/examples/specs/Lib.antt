-- The examples of document 01, wide cards, two sheets, two reports, the maps of one pair, the matrices of two, tables as differences, the models of some sizes, two towers and a table in parts.
pub mod Examples
pub mod CardExamples
pub mod SheetExamples
pub mod LedgerExamples
pub mod MapsExamples
pub mod MatrixExamples
pub mod DifferencesExamples
pub mod CatalogueExamples
pub mod TowerExamples
pub mod OpenTableExamples
