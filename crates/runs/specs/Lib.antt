-- What is proved of every list of session calls: of sessions (Theorem), of open tables and of the totals (OpenTable), and of sessions as C has them (OverC).
pub mod Theorem
pub mod OpenTable
pub mod OverC
