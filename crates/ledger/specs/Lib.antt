-- The ledger of conversions: its records, totals and report, and what is proved of them.
pub mod Ledger
pub mod Theorem
