-- What is proved of the ledger: totals and lines of records, one behind another (Records), and the theorems (Theorem).
pub mod Records
pub mod Theorem
