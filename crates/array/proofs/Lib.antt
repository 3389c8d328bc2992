-- Laws of lists of words, of arrays that hold them, of loops that fill an array, of ascending lists of lists, and of lists one after the other.
pub mod Words
pub mod Painted
pub mod Padded
pub mod Below
pub mod Copying
pub mod Ascending
pub mod Filling
pub mod Ranges
pub mod Digits
pub mod Flatten
