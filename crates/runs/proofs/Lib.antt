-- What every call keeps (Kept), what is written (Images), and the theorems (Theorem, OpenTable, Totals); over C, numbers there and back (There), and lists of calls
-- (OverC).
pub mod Kept
mod Images
pub mod Theorem
pub mod OpenTable
pub mod Totals
mod There
pub mod OverC
