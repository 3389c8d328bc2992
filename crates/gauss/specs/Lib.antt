-- Gauss's formula for the number of models.
pub mod Gauss
