-- Words as signed numbers (SignedWord), coefficients in columns (Columns), the lengths of lines (LineLengths), and what is proved of the
-- sheet (Theorem).
pub mod SignedWord
pub mod Columns
pub mod LineLengths
pub mod Theorem
