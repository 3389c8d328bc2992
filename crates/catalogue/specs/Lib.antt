-- Every model of a size: what the calls give, and what is proved of it; and the definitions of the contracts between its functions.
pub mod Catalogue
pub mod Theorem
pub mod Marks
