-- Text in a list of bytes: where it stands, its digits, and what is proved of them.
pub mod Text
pub mod Ascii
pub mod Digits
pub mod Columns
pub mod Theorem
