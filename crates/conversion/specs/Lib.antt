-- Conversions by what is held: the map of a direction, the number, and what the lent list then holds.
pub mod Conversion
