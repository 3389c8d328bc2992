-- The rows of a matrix minus a number; the laws of the loops stand beside their functions.
pub mod ShiftedMatrix
