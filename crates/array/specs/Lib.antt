-- Lists of words below p, their order, the numbers whose digits they are, and residues and matrices in flat arrays.
pub mod Words
pub mod Array
pub mod Props
pub mod Ascending
pub mod Digits
