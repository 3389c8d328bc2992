-- What the contracts on the equation v^p = v + a and on the rounds cite.
pub mod Equation
pub mod Generator
