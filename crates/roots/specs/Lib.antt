-- Roots of unity and n-th roots modulo p.
pub mod Roots
