-- What the numbers 9, 10 and 4 leave, and what holds of the images of a table.
pub mod Convertible
pub mod Groups
