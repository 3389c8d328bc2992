-- Systems of linear equations modulo p in a flat array, and what elimination does to them.
pub mod System
pub mod Elimination
