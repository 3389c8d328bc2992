-- Field cards: their bits, the answers of the reader and the writer, and what is proved of them.
pub mod Bits
pub mod Card
pub mod Kind
pub mod Theorem
