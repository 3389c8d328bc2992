-- The numbers of a conversion, by the tests of the code.
pub mod Numbers
