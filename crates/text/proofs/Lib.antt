-- Lists written one behind another (Append), digits (HexadecimalDigits, DecimalDigits), columns (ColumnDetermines), and what is proved of decimal
-- digits (Theorem).
pub mod Append
pub mod HexadecimalDigits
pub mod DecimalDigits
pub mod Theorem
pub mod ColumnDetermines
